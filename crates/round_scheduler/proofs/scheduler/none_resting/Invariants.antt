use Rattle.std.proofs.Common.{◌≡◌, length}
use Rattle.round_scheduler.proofs.scheduler.none_resting.Given as goal

abbrev pub invariant-loop-place : goal.invariant-loop-place
invariant-loop-place l = length l.resting.items ≡ l._place
