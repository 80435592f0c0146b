use Rattle.std.proofs.Common.{◌≡◌, ◌++◌, take}
use Rattle.std.specs.List.{flat_map}
use Rattle.trace_records.specs.Spelling.{record_bytes}
use Rattle.trace_records.proofs.writing.put_records.Given as goal

abbrev pub invariant-loop-made : goal.invariant-loop-made
invariant-loop-made l = l.out.items ≡ l.fn.out.items ++ flat_map record_bytes (take l.made-index l.records)
