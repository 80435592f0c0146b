use Rattle.std.proofs.Common.{◌≡◌, take}
use Rattle.round_report.specs.Summary.{round_count}
use Rattle.round_report.proofs.summary.round_count.Given as goal

abbrev pub invariant-loop-round : goal.invariant-loop-round
invariant-loop-round l = l.count ≡ round_count (take l.round-index l.rounds)
