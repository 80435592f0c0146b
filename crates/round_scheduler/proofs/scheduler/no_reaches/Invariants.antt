use Rattle.std.proofs.Common.{◌≡◌, length}
use Rattle.round_scheduler.proofs.scheduler.no_reaches.Given as goal

abbrev pub invariant-loop-place : goal.invariant-loop-place
invariant-loop-place l = length l.reaches.items ≡ l._place
