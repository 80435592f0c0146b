use Rattle.std.proofs.Common.{◌≤◌}
use Rattle.use_line.specs.Steps.{IsCopy}
use Rattle.use_line.proofs.steps.Steps.copied.Given as goal

-- what stands from here on is copied
abbrev pub invariant-loop-end : goal.invariant-loop-end
invariant-loop-end l = record {
  from : l.low ≤ l.end;
  to : l.end ≤ l.high;
  copies : IsCopy l.self l.copy l.end l.high;
}

abbrev pub decreases-loop-end : goal.decreases-loop-end
decreases-loop-end l = l.end
