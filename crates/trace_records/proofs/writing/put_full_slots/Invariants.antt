use Rattle.std.proofs.Common.{◌≡◌, ◌++◌, take}
use Rattle.std.specs.List.{flat_map}
use Rattle.trace_records.specs.Spelling.{full_slot_bytes}
use Rattle.trace_records.proofs.writing.put_full_slots.Given as goal

abbrev pub invariant-loop-slot : goal.invariant-loop-slot
invariant-loop-slot l = l.out.items ≡ l.fn.out.items ++ flat_map full_slot_bytes (take l.slot-index l.slots)
