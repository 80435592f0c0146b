-- The model: what the records so far decide for the next one.
use Rattle.std.specs.Prelude.{ℕ, ◌+◌, List, [], ◌∷◌, ◌++◌, map, length, slice_set, Option, None, Some}
use Rattle.std.specs.List.{slice_get}
use Rattle.trace_records.specs.declared.front.Sizes.{Sizes}
use Rattle.trace_records.specs.declared.record.Ring.{Ring}
use Rattle.trace_records.specs.declared.record.Record.{Record}
use Rattle.trace_records.specs.declared.record.Record.TheVariants.{Enter, Fill, Set, Seek, RingStarts, RingEnds}

-- the sizes of each ring so far, none of one that ended, and how many places there are
pub record Front : Type 0 where
  pub rings : List (Option Sizes)
  pub places : ℕ

-- before the first record
abbrev pub no_records : Front
no_records = record { rings = []; places = 0 }

-- how many slots a ring has, and how long its buffers are
abbrev pub sizes_of : Ring → Sizes
sizes_of r = record { slots = r.slots; buffers = map (λ b. b.len) r.buffers }

-- a record's own places: one of each entry, of a fill, a set, a seek and a new ring
abbrev pub places_of : Record → ℕ
places_of (Enter ring entries) = length entries
places_of (Fill ring buffer offset filling) = 1
places_of (Set file content) = 1
places_of (Seek file position) = 1
places_of (RingStarts ring) = 1
places_of (RingEnds ring) = 0

-- the rings after a record
abbrev pub rings_after : List (Option Sizes) → Record → List (Option Sizes)
rings_after rings (RingStarts ring) = rings ++ Some (sizes_of ring) ∷ []
rings_after rings (RingEnds ring) = slice_set rings ring None
rings_after rings _ = rings

-- one record more
abbrev pub after : Front → Record → Front
after f r = record { rings = rings_after f.rings r; places = f.places + places_of r }

-- the sizes of a ring that is there
abbrev pub ring_at : List (Option Sizes) → ℕ → Option Sizes
ring_at rings n = elim (slice_get rings n) [ None ↦ None | Some r ↦ r ]

-- how many slots a ring has that is there, and how long a buffer of it is
abbrev pub slots_in : List (Option Sizes) → ℕ → ℕ
slots_in rings n = elim (ring_at rings n) [ None ↦ 0 | Some r ↦ r.slots ]

abbrev pub buffer_len : List (Option Sizes) → ℕ → ℕ → Option ℕ
buffer_len rings n buffer = elim (ring_at rings n) [ None ↦ None | Some r ↦ slice_get r.buffers buffer ]

-- how many places a trace has at most
abbrev pub places_limit : ℕ
places_limit = 2147483648
