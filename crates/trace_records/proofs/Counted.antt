-- Counting record after record.
use Rattle.std.proofs.Common.{◌≡◌, ℕ, ◌+◌, List, [], ◌∷◌, ◌++◌, length, cond, None, Some, Result, Ok, Err, refl, sym, ap, ◌∙◌, add-zero, length-append}
use Rattle.std.specs.Prelude.{Option, IfOk, IfErr}
use Rattle.std.proofs.lemmas.List.{length-set}
use Rattle.std.proofs.lemmas.List.Sums.{sum_by_push}
use Rattle.trace_format.specs.Read.{reading}
use Rattle.trace_records.specs.declared.counting.Tally.{Tally}
use Rattle.trace_records.specs.declared.fault.ReadError.{ReadError}
use Rattle.trace_records.specs.declared.fault.ReadError.TheVariants as errors
use Rattle.trace_records.specs.declared.front.Sizes.{Sizes}
use Rattle.trace_records.specs.declared.record.Record.{Record}
use Rattle.trace_records.specs.declared.record.Record.TheVariants.{Enter, Fill, Set, Seek, RingStarts, RingEnds}
use Rattle.trace_records.specs.declared.start.Start.{Start}
use Rattle.trace_records.specs.Front.{Front, no_records, after, places_of, rings_after, sizes_of}
use Rattle.trace_records.specs.declared.trace.Trace.{Trace}
use Rattle.trace_records.specs.Read.{OnFault}
use Rattle.trace_records.specs.Records.{next}
use Rattle.trace_records.specs.Start.{start}
use Rattle.trace_records.specs.Tallies.{places, rings, is_ring, IsTallyOf}
use Rattle.trace_records.specs.Whole.{Behind, Ends, SpellsTrace, HasFault}
use Rattle.trace_records.proofs.Going.{Going, FaultBehind, begun, begins, one_more, records_broken}

-- What follows records follows all of them, and they have as many places and rings as the front.
pub record Counted (s : Start) (front : Front) (place : ℕ) (text : List ℕ) (first : ℕ) (whole : List ℕ) : Type 0 where
  pub earlier : List Record
  pub going : Going s front place text earlier first whole
  pub places_are : front.places ≡ places earlier
  pub rings_are : length front.rings ≡ rings earlier

pub none_counted : (s : Start) (place : ℕ) (text : List ℕ) → Counted s no_records place text place text
none_counted s place text = record { earlier = []; going = begun s place text; places_are = refl; rings_are = refl }

-- a record adds a ring where it is a new one
pub rings-after : (so_far : List (Option Sizes)) (r : Record) → length (rings_after so_far r) ≡ length so_far + cond (is_ring r) 1 0
rings-after so_far (Enter ring entries) = sym (add-zero (length so_far))
rings-after so_far (Fill ring buffer offset filling) = sym (add-zero (length so_far))
rings-after so_far (Set file content) = sym (add-zero (length so_far))
rings-after so_far (Seek file position) = sym (add-zero (length so_far))
rings-after so_far (RingStarts ring) = length-append so_far (Some (sizes_of ring) ∷ [])
rings-after so_far (RingEnds ring) = length-set so_far ring None ∙ sym (add-zero (length so_far))

-- one record more
pub one_counted : (s : Start) (front : Front) (place : ℕ) (text : List ℕ) (first : ℕ) (whole : List ℕ) (r : Record) (end : ℕ) (rest : List ℕ)
    → Counted s front place text first whole → reading (next s front) place text ≡ Ok (Some r, end, rest) → Counted s (after front r) end rest first whole
one_counted s front place text first whole r end rest c e = record {
  earlier = c.earlier ++ r ∷ [];
  going = one_more s front place text c.earlier first whole r end rest c.going e;
  places_are = ap (λ (n : ℕ). n + places_of r) c.places_are ∙ sym (sum_by_push places_of c.earlier r);
  rings_are = rings-after front.rings r ∙ ap (λ (n : ℕ). n + cond (is_ring r) 1 0) c.rings_are ∙ sym (sum_by_push (λ x. cond (is_ring x) 1 0) c.earlier r);
}

-- what is said of the records behind a start is said of the trace
pub trace_counted : (bytes : List ℕ) (s : Start) (end : ℕ) (rest : List ℕ) (r : Result Tally ReadError) → reading start 0 bytes ≡ Ok (s, end, rest)
    → IfOk r (λ tally. (rs : List Record) × Behind (Ends s) s no_records end rest rs × IsTallyOf tally rs) → IfOk r (λ tally. (t : Trace) × SpellsTrace bytes t × IsTallyOf tally t.records)
trace_counted bytes s end rest (Ok tally) e h =
    let t : Trace = record { start = s; records = h.0 } in
    (t, begins (Ends s) bytes s end rest h.0 e h.1, h.2)
trace_counted bytes s end rest (Err f) e h = tt

pub trace_faulty : (bytes : List ℕ) (s : Start) (end : ℕ) (rest : List ℕ) (r : Result Tally ReadError) → reading start 0 bytes ≡ Ok (s, end, rest)
    → IfErr r (λ f. OnFault f (FaultBehind s end rest)) → IfErr r (λ f. OnFault f (HasFault bytes))
trace_faulty bytes s end rest (Ok tally) e h = tt
trace_faulty bytes s end rest (Err errors.OutOfMemory) e h = tt
trace_faulty bytes s end rest (Err (errors.Fault f)) e h = records_broken bytes s end rest e f h
