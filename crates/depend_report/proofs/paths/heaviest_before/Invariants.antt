use Rattle.std.proofs.Common.{◌≡◌, take}
use Rattle.depend_report.specs.Paths.{heaviest_before}
use Rattle.depend_report.proofs.paths.heaviest_before.Given as goal

abbrev pub invariant-loop-wait : goal.invariant-loop-wait
invariant-loop-wait l = l.most ≡ heaviest_before l.weights (take l.wait-index l.waits)
