-- The model: what a stream of a trace stands for, what its next record makes of it, and what its faults tell.
use Rattle.std.specs.Prelude.{◌≡◌, ◌⊎◌, ◌++◌, ◌∷◌, [], ⊤, ℕ, Bool, true, false, List, length, Option, None, Some}
use Rattle.std.specs.Io.KnownBytes.{Consumes, IsAtEnd}
use Rattle.trace_format.specs.Grammar.{Breaks, fault}
use Rattle.trace_format.specs.declared.fault.Kind.TheVariants.{Memory, Short}
use Rattle.trace_format.specs.declared.fault.TraceFault.{TraceFault}
use Rattle.trace_records.specs.Front.{Front, no_records, after}
use Rattle.trace_records.specs.Tallies.{IsTallyOf}
use Rattle.trace_records.specs.Start.{start}
use Rattle.trace_records.specs.Whole.{SpellsTrace, Begins, NextBreaks, HasMore, IsFront, IsRefusal}
use Rattle.trace_records.specs.declared.counting.Tally.{Tally}
use Rattle.trace_records.specs.declared.record.Record.{Record}
use Rattle.trace_records.specs.declared.start.Start.{Start}
use Rattle.trace_records.specs.declared.trace.Trace.{Trace}
use Rattle.trace_stream.specs.Held.{Ended}
use Rattle.trace_stream.specs.declared.fault.StreamFault.{StreamFault}
use Rattle.trace_stream.specs.declared.fault.StreamFault.TheVariants as faults
use Rattle.trace_stream.specs.declared.stream.Stream.{Stream}

-- the front behind records
abbrev pub behind : Front → List Record → Front
behind front [] = front
behind front (r ∷ rs) = behind (after front r) rs

-- a start and records so far
abbrev pub trace_of : Start → List Record → Trace
trace_of s rs = record { start = s; records = rs }

-- What is kept of a start has what decides its records: the descriptions, and how long the table of descriptors is.
pub record IsCoreOf (core b : Start) : Type 0 where
  pub descriptions : core.descriptions ≡ b.descriptions
  pub table_size : core.table_size ≡ b.table_size

-- The bytes that were taken are those of the start and the records so far, and those that are held.
pub record Stands (b : Start) (s : Stream) (taken : List ℕ) (rs : List Record) : Type 0 where
  pub core : IsCoreOf s.core b
  pub text : List ℕ
  pub spelled : IsFront text (trace_of b rs)
  pub held_behind : taken ≡ text ++ s.held.rest
  pub place_is : s.held.place ≡ length text
  pub front_is : s.front ≡ behind no_records rs

-- The stream goes on by a record, or the bytes that were taken spell the trace, and the reader is at its end.
abbrev pub GoesTo : Option (List ℕ) → Start → Stream → List ℕ → List Record → Option Record → Type 0
GoesTo left b s' taken rs (Some r) = Stands b s' taken (rs ++ r ∷ [])
GoesTo left b s' taken rs None = SpellsTrace taken (trace_of b rs) × IsAtEnd left × (s'.front ≡ behind no_records rs)

-- What was taken before and what the reader lost gives the next record, or the end.
abbrev pub Gives : Option (List ℕ) → Option (List ℕ) → Stream → Stream → Option Record → Type 0
Gives left left' s s' x =
    (more : List ℕ) × Consumes left left' more
    × ((b : Start) (taken : List ℕ) (rs : List Record) → Stands b s taken rs → GoesTo left' b s' (taken ++ more) rs x)

-- Bytes spell these records behind a start, and then have the fault.
abbrev pub HasFaultBehind : List ℕ → Start → List Record → TraceFault → Type 0
HasFaultBehind bytes b rs f = Begins (NextBreaks f b) bytes b rs ⊎ Begins (HasMore f b) bytes b rs

-- They have the fault behind the records so far. Of a reader that failed and of memory that ran out nothing is told.
abbrev pub GivesFault : Option (List ℕ) → Option (List ℕ) → Stream → StreamFault → Type 0
GivesFault left left' s faults.Read = ⊤
GivesFault left left' s (faults.Trace f) =
    (f ≡ fault Memory 0)
    ⊎ ((more : List ℕ) × Consumes left left' more
    × ((b : Start) (taken : List ℕ) (rs : List Record) → Stands b s taken rs → HasFaultBehind (taken ++ more) b rs f) × Ended f left')

-- A stream begins: what was read ahead and what the reader lost is a start, and what is held.
abbrev pub Opens : List ℕ → Option (List ℕ) → Option (List ℕ) → Start × Stream → Type 0
Opens ahead left left' x = (more : List ℕ) × Consumes left left' more × Stands x.0 x.1 (ahead ++ more) []

-- What was read ahead and what the reader lost has the fault in the start.
abbrev pub TellsOfStart : List ℕ → Option (List ℕ) → Option (List ℕ) → StreamFault → Type 0
TellsOfStart ahead left left' faults.Read = ⊤
TellsOfStart ahead left left' (faults.Trace f) =
    (f ≡ fault Memory 0) ⊎ ((more : List ℕ) × Consumes left left' more × Breaks start 0 (ahead ++ more) f × Ended f left')

-- The text that was read ahead and that the reader lost has the fault, and spells no trace, whatever follows; or it ends too early, and the reader is at its end.
pub record IsFaultOf (ahead : List ℕ) (left left' : Option (List ℕ)) (f : TraceFault) : Type 0 where
  pub more : List ℕ
  pub taken : Consumes left left' more
  pub is : IsRefusal (ahead ++ more) f
  pub ended : Ended f left'
  pub stays : (f.kind ≡ Short → ⊥) → (later : List ℕ) → IsRefusal ((ahead ++ more) ++ later) f

abbrev pub Tells : List ℕ → Option (List ℕ) → Option (List ℕ) → StreamFault → Type 0
Tells ahead left left' faults.Read = ⊤
Tells ahead left left' (faults.Trace f) = (f ≡ fault Memory 0) ⊎ IsFaultOf ahead left left' f

-- The reader was read to its end, and this is so of what was read ahead and what it had left.
pub record ReadsAll (ahead : List ℕ) (left left' : Option (List ℕ)) (IsSo : List ℕ → Type 0) : Type 0 where
  pub more : List ℕ
  pub taken : Consumes left left' more
  pub ended : IsAtEnd left'
  pub is : IsSo (ahead ++ more)

-- The text spells a trace with this tally.
abbrev pub HasTally : Tally → List ℕ → Type 0
HasTally tally text = (t : Trace) × SpellsTrace text t × IsTallyOf tally t.records

-- The stream goes on by some record, or not.
abbrev pub Steps : Option (List ℕ) → Option (List ℕ) → Stream → Stream → Bool → Type 0
Steps left left' s s' true = (r : Record) × Gives left left' s s' (Some r)
Steps left left' s s' false = Gives left left' s s' None

-- The stream goes on by a record, which comes behind the others, or not.
abbrev pub Adds : Option (List ℕ) → Option (List ℕ) → Stream → Stream → List Record → List Record → Bool → Type 0
Adds left left' s s' rs rs' true = (r : Record) × (rs' ≡ rs ++ r ∷ []) × Gives left left' s s' (Some r)
Adds left left' s s' rs rs' false = (rs' ≡ rs) × Gives left left' s s' None
