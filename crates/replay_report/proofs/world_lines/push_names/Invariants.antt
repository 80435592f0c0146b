use Rattle.std.proofs.Common.{◌≡◌, ◌++◌, take}
use Rattle.replay_report.specs.Sums.{shown_of}
use Rattle.std.specs.List.{flat_map}
use Rattle.replay_report.specs.Report.{name_line}
use Rattle.replay_report.proofs.world_lines.push_names.Given as goal

abbrev pub invariant-loop-name : goal.invariant-loop-name
invariant-loop-name l = l.text.items ≡ l.initial.text.items ++ flat_map (name_line l.world (shown_of l.sums)) (take l.name-index l.names)
