-- The model: what a step of a recording is.
use Rattle.std.specs.Prelude.{ℕ, Bool, true, false, not, ◌==◌, List, length}
use Rattle.trace_format.specs.declared.entry.Entry.{Entry}
use Rattle.trace_records.specs.declared.record.Content.{Content}
use Rattle.trace_records.specs.declared.record.FileAt.{FileAt}
use Rattle.trace_records.specs.declared.record.FileAt.TheVariants.{Slot, Descriptor}
use Rattle.trace_records.specs.declared.record.FullSlot.{FullSlot}
use Rattle.recording.specs.Limits.{table_limit}

-- What a step does: it submits an entry, puts bytes into a registered buffer at an offset, fills slots of a new ring, says what a slot or a descriptor holds, or the position of that.
pub data Action : Type 0 where
  submit : (entry : Entry) → Action
  fill : (buffer offset : ℕ) (bytes : List ℕ) → Action
  register : (slots : List FullSlot) → Action
  set : (file : FileAt) (content : Content) → Action
  seek : (file : FileAt) (position : ℕ) → Action

-- A step, with its ring and a number that the steps of its record share.
pub record Step : Type 0 where
  pub ring : ℕ
  pub from_record : ℕ
  pub action : Action

-- the ring of a step that is on none: all rings have numbers below it
abbrev pub no_ring : ℕ
no_ring = table_limit

-- the ring of a slot; a descriptor is on none
abbrev pub ring_of : FileAt → ℕ
ring_of (Slot ring number) = ring
ring_of (Descriptor number) = no_ring

abbrev pub is_slot : FileAt → Bool
is_slot (Slot ring number) = true
is_slot (Descriptor number) = false

-- whether what a step does is done on its ring: not where it is about a descriptor, or is nothing
abbrev pub is_on_ring : Action → Bool
is_on_ring (submit entry) = true
is_on_ring (fill buffer offset bytes) = true
is_on_ring (register slots) = not (length slots == 0)
is_on_ring (set file content) = is_slot file
is_on_ring (seek file position) = is_slot file
