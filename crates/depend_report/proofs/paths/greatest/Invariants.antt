use Rattle.std.proofs.Common.{◌≡◌, take}
use Rattle.round_report.specs.Summary.{greatest}
use Rattle.depend_report.proofs.paths.greatest.Given as goal

abbrev pub invariant-loop-weight : goal.invariant-loop-weight
invariant-loop-weight l = l.most ≡ greatest (take l.weight-index l.weights)
