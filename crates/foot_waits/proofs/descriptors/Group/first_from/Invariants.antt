use Rattle.std.proofs.Common.{◌≤◌, ◌<◌, ℕ, get_or, length}
use Rattle.foot_waits.proofs.descriptors.Group.first_from.Given as goal

-- from here on all are at least the number
abbrev pub invariant-loop-first : goal.invariant-loop-first
invariant-loop-first l = record {
  within : l.first ≤ length l.self.2;
  from : (i : ℕ) → l.first ≤ i → i < length l.self.2 → l.since ≤ get_or l.self.2 i 0;
}

abbrev pub decreases-loop-first : goal.decreases-loop-first
decreases-loop-first l = l.first
