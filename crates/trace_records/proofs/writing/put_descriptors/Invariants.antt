use Rattle.std.proofs.Common.{◌≡◌, ◌++◌, take}
use Rattle.std.specs.List.{flat_map}
use Rattle.trace_records.specs.Spelling.{descriptor_bytes}
use Rattle.trace_records.proofs.writing.put_descriptors.Given as goal

abbrev pub invariant-loop-descriptor : goal.invariant-loop-descriptor
invariant-loop-descriptor l = l.out.items ≡ l.fn.out.items ++ flat_map descriptor_bytes (take l.descriptor-index l.descriptors)
