-- A law: what holds of the steps of each trace that some bytes spell.
use Rattle.std.specs.Prelude.{◌≡◌, ◌<◌, ◌≤◌, ℕ, true, List, length, Some}
use Rattle.sqe_codec.specs.Fields.{IsBytes, IsEntry}
use Rattle.trace_format.specs.declared.entry.Entry.{Entry}
use Rattle.trace_format.specs.declared.trace.Trace.{Trace}
use Rattle.trace_format.specs.Counts.{places_limit}
use Rattle.trace_format.specs.Sides.{is_side_of}
use Rattle.trace_format.specs.Steps.{Step, submit, places, step_at}
use Rattle.trace_format.specs.Text.{SpellsTrace, IsSpelled}

-- the bytes beside each entry fit it
abbrev pub SpelledFits : Type 0
SpelledFits = (t : Trace) → IsSpelled t → (k : ℕ) (s : Step) (e : Entry) → step_at t k ≡ Some s → s.action ≡ submit e → is_side_of e.sqe e.side ≡ true

-- the ring of each step is there
abbrev pub SpelledRings : Type 0
SpelledRings = (t : Trace) → IsSpelled t → (k : ℕ) (s : Step) → step_at t k ≡ Some s → s.ring < length t.rings

-- there are no more steps than the limit
abbrev pub SpelledPlaces : Type 0
SpelledPlaces = (t : Trace) → IsSpelled t → places t ≤ places_limit

-- the fields of each entry of a text of bytes have the ranges of their types
abbrev pub SpelledRanges : Type 0
SpelledRanges =
    (bytes : List ℕ) (t : Trace) → IsBytes bytes → SpellsTrace bytes t → (k : ℕ) (s : Step) (e : Entry) → step_at t k ≡ Some s → s.action ≡ submit e → IsEntry e.sqe
