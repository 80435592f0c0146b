use Rattle.std.proofs.Common.{◌≡◌, ◌++◌}
use Rattle.std.specs.List.{flat_map, range_with_len}
use Rattle.round_report.specs.Rounds.{log_meant, logged_line}
use Rattle.round_report.proofs.lines.push_places.Given as goal

abbrev pub invariant-loop-place : goal.invariant-loop-place
invariant-loop-place l = l.text.items ≡ l.initial.text.items ++ flat_map (logged_line l.trace (log_meant l.log)) (range_with_len 0 l.place)
