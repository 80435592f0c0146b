-- The model: how many places and rings records have.
use Rattle.std.specs.Prelude.{◌≡◌, ℕ, Bool, true, false, List}
use Rattle.std.specs.List.{sum_by, count_by}
use Rattle.trace_records.specs.declared.counting.Tally.{Tally}
use Rattle.trace_records.specs.declared.record.Record.{Record}
use Rattle.trace_records.specs.declared.record.Record.TheVariants.{RingStarts}
use Rattle.trace_records.specs.Front.{places_of}

-- the places of all
abbrev pub places : List Record → ℕ
places rs = sum_by places_of rs

-- whether a record is a new ring
abbrev pub is_ring : Record → Bool
is_ring (RingStarts ring) = true
is_ring _ = false

-- the rings, those that ended too
abbrev pub rings : List Record → ℕ
rings rs = count_by is_ring rs

-- so many places and rings
pub record IsTallyOf (tally : Tally) (rs : List Record) : Type 0 where
  pub places_are : tally.places ≡ places rs
  pub rings_are : tally.rings ≡ rings rs
