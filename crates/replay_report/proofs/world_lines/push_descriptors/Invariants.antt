use Rattle.std.proofs.Common.{◌≡◌, ◌++◌, take, string_bytes}
use Rattle.std.specs.List.{flat_map}
use Rattle.replay_report.specs.Report.{descriptor_line}
use Rattle.replay_report.proofs.world_lines.push_descriptors.Given as goal

abbrev pub invariant-loop-descriptor : goal.invariant-loop-descriptor
invariant-loop-descriptor l = string_bytes l.text ≡ string_bytes l.initial.text ++ flat_map descriptor_line (take l.descriptor-index l.descriptors)
