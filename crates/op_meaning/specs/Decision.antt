-- A view of code: what an operation does that is accepted, as it was decided on.
use Rattle.std.specs.Prelude.{ℕ, ◌+◌, ◌^◌, ◌<◌, ◌≤◌, [], ◌∷◌, None, Ok, length, unwrap_or}
use Rattle.entry_checks.specs.Operation.{file_limit}
use Rattle.entry_checks.specs.declared.operation.FileNumber.{FileNumber}
use Rattle.entry_checks.specs.declared.operation.FileNumber.TheVariants.{Slot, Descriptor}
use Rattle.entry_checks.specs.Meant.{file_meant}
use Rattle.extent_bytes.specs.Bytes.{range_of}
use Rattle.trace_format.specs.Blobs.{sliced}
use Rattle.trace_format.specs.Sides.{most_moved}
use Rattle.world_parts.specs.World.{World, buffer, set_descriptor, set_position, set_size, set_slot}
use Rattle.op_meaning.specs.declared.allocating.RangeAllocation.{RangeAllocation}
use Rattle.op_meaning.specs.declared.decision.Decision.{Decision}
use Rattle.op_meaning.specs.declared.decision.Decision.TheVariants.{Nothing, Tell, Read, Write, ReadFixed, WriteFixed, Allocate, Resize, Open, Empty, MakeDirectory, ChangeNames, Hold, HoldPath, HoldOther, Seek}
use Rattle.op_meaning.specs.declared.transfers.BufferRead.{BufferRead}
use Rattle.op_meaning.specs.declared.transfers.BufferWrite.{BufferWrite}
use Rattle.op_meaning.specs.declared.transfers.FileRead.{FileRead}
use Rattle.op_meaning.specs.declared.transfers.FileWrite.{FileWrite}
use Rattle.op_meaning.specs.Handles.{allocation_meant, handle_meant}
use Rattle.op_meaning.specs.Meaning.{Effect, Site, allocate, done, held_other, held_path, into, node_told, put, read_effect, reply, write_effect}
use Rattle.op_meaning.specs.NameChanges.{changes_meant, directory_effect}
use Rattle.op_meaning.specs.Opening.{opened_as}

-- a read into the reply, and one into a buffer of a ring
abbrev pub bytes_read : World → FileRead → Effect
bytes_read s x = read_effect s x.offset x.count (handle_meant s x.file) reply

abbrev pub buffer_filled : World → ℕ → BufferRead → Effect
buffer_filled s r x = read_effect s x.offset x.count (handle_meant s x.file) (into r x.index x.at)

-- a write of bytes, and one of a range of a buffer of a ring
abbrev pub bytes_written : World → FileWrite → Effect
bytes_written s x = write_effect x.offset (handle_meant s x.file) x.start (sliced x.bytes)

abbrev pub buffer_written : World → ℕ → BufferWrite → Effect
buffer_written s r x = write_effect x.offset (handle_meant s x.file) x.start (range_of (unwrap_or (buffer s r x.index) []) x.at (x.at + x.count))

-- an allocation of a range of a file
abbrev pub allocated : World → RangeAllocation → Effect
allocated s x = done (allocate s x.node x.offset x.end (allocation_meant x.allocation))

-- a slot of a ring, or a descriptor, that becomes empty
abbrev pub emptied : ℕ → FileNumber → Effect
emptied r (Slot n) = done (set_slot r n None ∷ [])
emptied r (Descriptor n) = done (set_descriptor n None ∷ [])

-- the effect of what was decided on, where an operation stands
abbrev pub effect_of : Site → World → Decision → Effect
effect_of site s Nothing = done []
effect_of site s (Tell kind size) = node_told kind size
effect_of site s (Read x) = bytes_read s x
effect_of site s (Write x) = bytes_written s x
effect_of site s (ReadFixed x) = buffer_filled s site.ring x
effect_of site s (WriteFixed x) = buffer_written s site.ring x
effect_of site s (Allocate x) = allocated s x
effect_of site s (Resize i n) = done (set_size i n ∷ [])
effect_of site s (Open x) = opened_as site s.nodes x
effect_of site s (Empty x) = emptied site.ring x
effect_of site s (MakeDirectory p) = directory_effect site p
effect_of site s (ChangeNames x) = changes_meant s.nodes x
effect_of site s (Hold f d) = done (put site.ring (file_meant f) d ∷ [])
effect_of site s (HoldPath x at) = held_path site (file_meant x.room) at (Ok (opened_as site s.nodes x))
effect_of site s (HoldOther f) = held_other site (file_meant f)
effect_of site s (Seek d at) = done (set_position d at ∷ [])

-- whether what was decided on keeps to the limits: it writes no more than one call moves, from within the buffer, and makes no file longer than the largest
abbrev pub IsWithinLimits : World → ℕ → Decision → Type 0
IsWithinLimits s r (Write x) = (x.start + length (sliced x.bytes) ≤ file_limit) × (length (sliced x.bytes) ≤ most_moved)
IsWithinLimits s r (WriteFixed x) = (x.at < 2 ^ 32) × (x.at + x.count ≤ length (unwrap_or (buffer s r x.index) [])) × (x.start + x.count ≤ file_limit) × (x.count ≤ most_moved)
IsWithinLimits s r (Allocate x) = x.end ≤ file_limit
IsWithinLimits s r (Resize i n) = n ≤ file_limit
IsWithinLimits s r _ = Unit {0}
