use Rattle.std.proofs.Common.{◌≡◌, map, take}
use Rattle.std.specs.List.{range_with_len}
use Rattle.round_report.specs.Summary.{width}
use Rattle.round_report.proofs.summary.widths.Given as goal

abbrev pub invariant-loop-round : goal.invariant-loop-round
invariant-loop-round l = l.widths.items ≡ map (width (take l.round-index l.rounds)) (range_with_len 0 l.fn.count)
