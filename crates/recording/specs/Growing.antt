-- The model: the recording of a trace of version 3, a record after another.
use Rattle.std.specs.Prelude.{ℕ, suc, ◌+◌, ◌-◌, ◌<◌, ◌≤◌, ◌^◌, List, [], ◌∷◌, ◌++◌, map, length, replicate, slice_set, Option, Some, None, true, false}
use Rattle.std.specs.List.{slice_get}
use Rattle.trace_format.specs.Submitted.{Submitted}
use Rattle.trace_format.specs.declared.given.Given as outcome
use Rattle.trace_format.specs.declared.version.Version.TheVariants.{Three}
use Rattle.trace_records.specs.Front.{places_of}
use Rattle.trace_records.specs.Records.{meant}
use Rattle.trace_records.specs.declared.start.Descriptor.{Descriptor}
use Rattle.trace_records.specs.declared.start.Start.{Start}
use Rattle.trace_records.specs.declared.record.Beside.{Beside}
use Rattle.trace_records.specs.declared.record.Beside.TheVariants.{Given}
use Rattle.trace_records.specs.declared.record.Entry.{Entry}
use Rattle.trace_records.specs.declared.record.Filling.{Filling}
use Rattle.trace_records.specs.declared.record.Filling.TheVariants.{Stored, Zeros}
use Rattle.trace_records.specs.declared.record.Record.{Record}
use Rattle.trace_records.specs.declared.record.Record.TheVariants.{Enter, Fill, Set, Seek, RingStarts, RingEnds}
use Rattle.trace_records.specs.declared.record.Ring as new
use Rattle.trace_records.specs.declared.trace.Trace.{Trace}
use Rattle.recording.specs.declared.growing.Growing as code
use Rattle.recording.specs.declared.recording.Recording.{Recording}
use Rattle.recording.specs.declared.recording.Ring.{Ring}
use Rattle.recording.specs.Records.{record_steps}
use Rattle.recording.specs.declared.record.Record.TheVariants as kept
use Rattle.recording.specs.Actions.{Step}
use Rattle.recording.specs.Forgotten.{blanks}
use Rattle.recording.specs.Limits.{places_limit}

-- bytes, and zeros behind them, so many in all
abbrev pub with_zeros : List ℕ → ℕ → List ℕ
with_zeros front len = front ++ replicate (len - length front) 0

-- what is given of an entry
abbrev pub given_in : Beside → Option outcome.Given
given_in (Given given) = Some given
given_in _ = None

-- an entry with the bytes that it speaks of, and what is given of it
abbrev pub submitted : Entry → Submitted
submitted e = record { sqe = e.sqe; side = meant e.beside; given = given_in e.beside }

abbrev pub filling_bytes : Filling → List ℕ
filling_bytes (Stored bytes) = bytes
filling_bytes (Zeros len) = replicate len 0

-- a table of descriptors, of which those that are named are full
abbrev pub filled : List ℕ → List Descriptor → List ℕ
filled table [] = table
filled table (d ∷ ds) = filled (slice_set table d.number (suc d.description)) ds

abbrev pub table_of : ℕ → List Descriptor → List ℕ
table_of size ds = filled (replicate size 0) ds

-- the ring whose queue a new ring submits to: it continues that of an earlier one, or it is its own
abbrev pub queue_behind : List Ring → Option ℕ → ℕ
queue_behind rings None = length rings
queue_behind rings (Some earlier) = elim (slice_get rings earlier) [ None ↦ length rings | Some r ↦ r.queue ]

-- a new ring, whose slots are empty until its step
abbrev pub new_ring : List Ring → new.Ring → Ring
new_ring rings r = record { slots = []; spare = r.slots; buffers = r.buffers; queue = queue_behind rings r.queue; ended = false }

-- a ring ends
abbrev pub with_end : List Ring → ℕ → List Ring
with_end rings n = elim (slice_get rings n) [ None ↦ rings | Some r ↦ slice_set rings n (record r { ended = true }) ]

-- the rings and the steps of the records so far
pub record Grown : Type 0 where
  pub rings : List Ring
  pub steps : List Step

abbrev pub grown : code.Growing → Grown
grown g = record { rings = g.rings.items; steps = g.steps }

-- one record more
abbrev pub with_record : Grown → Record → Grown
with_record g (Enter ring entries) = record g { steps = g.steps ++ record_steps (length g.steps) (kept.Enter ring (map submitted entries)) }
with_record g (Fill ring buffer offset filling) = record g { steps = g.steps ++ record_steps (length g.steps) (kept.Fill ring buffer offset (filling_bytes filling)) }
with_record g (Set file content) = record g { steps = g.steps ++ record_steps (length g.steps) (kept.Set file content) }
with_record g (Seek file position) = record g { steps = g.steps ++ record_steps (length g.steps) (kept.Seek file position) }
with_record g (RingStarts ring) = record { rings = g.rings ++ new_ring g.rings ring ∷ []; steps = g.steps ++ record_steps (length g.steps) (kept.Register (length g.rings) ring.full) }
with_record g (RingEnds ring) = record g { rings = with_end g.rings ring }

abbrev pub with_records : Grown → List Record → Grown
with_records g [] = g
with_records g (r ∷ rs) = with_records (with_record g r) rs

abbrev pub no_records : Grown
no_records = record { rings = []; steps = [] }

abbrev pub recorded : Start → Grown → Recording
recorded s g = record { version = Three; in_place_order = true; items = s.items; descriptions = s.descriptions; descriptors = table_of s.table_size s.descriptors; rings = g.rings; steps = g.steps }

-- the recording of a start, before the first record
abbrev pub of_start : Start → Recording
of_start s = recorded s no_records

abbrev pub of_records : Trace → Recording
of_records t = recorded t.start (with_records no_records t.records)

-- the rings and the steps of a recording
abbrev pub grown_in : Recording → Grown
grown_in t = record { rings = t.rings; steps = t.steps }

-- a recording with these instead
abbrev pub with_grown : Recording → Grown → Recording
with_grown t g = record t { rings = g.rings; steps = g.steps }

-- a recording with one record more
abbrev pub with_next : Recording → Record → Recording
with_next t r = with_grown t (with_record (grown_in t) r)

-- There is room for one ring more, and for the places of a record.
pub record HasRoom (g : Grown) (r : Record) : Type 0 where
  pub rings : length g.rings + 1 < 2 ^ 32
  pub places : length g.steps + places_of r ≤ places_limit

-- a recording with as many steps, each of which does nothing
abbrev pub let_go : Recording → Recording
let_go t = record t { steps = blanks (length t.steps) }
