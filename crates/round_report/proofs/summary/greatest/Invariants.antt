use Rattle.std.proofs.Common.{◌≡◌, take}
use Rattle.round_report.specs.Summary.{greatest}
use Rattle.round_report.proofs.summary.greatest.Given as goal

abbrev pub invariant-loop-number : goal.invariant-loop-number
invariant-loop-number l = l.most ≡ greatest (take l.number-index l.numbers)
