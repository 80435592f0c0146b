use Rattle.std.proofs.Common.{◌++◌, take}
use Rattle.std.specs.List.{filter_map}
use Rattle.replay_report.specs.Sums.{HaveSame, file_to_sum}
use Rattle.replay_report.proofs.sums.add_files.Given as goal

abbrev pub invariant-loop-name : goal.invariant-loop-name
invariant-loop-name l = HaveSame l.shown.keys (l.initial.shown.keys ++ filter_map file_to_sum (take l.name-index l.names))
