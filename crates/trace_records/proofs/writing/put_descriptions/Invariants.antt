use Rattle.std.proofs.Common.{◌≡◌, ◌++◌, take}
use Rattle.std.specs.List.{flat_map}
use Rattle.trace_format.specs.Spelling.{description_bytes}
use Rattle.trace_records.proofs.writing.put_descriptions.Given as goal

abbrev pub invariant-loop-description : goal.invariant-loop-description
invariant-loop-description l = l.out.items ≡ l.fn.out.items ++ flat_map description_bytes (take l.description-index l.descriptions)
