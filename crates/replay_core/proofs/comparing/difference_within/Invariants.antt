use Rattle.std.proofs.Common.{◌≡◌, take}
use Rattle.replay_core.proofs.comparing.difference_within.Given as goal

abbrev pub invariant-loop-place : goal.invariant-loop-place
invariant-loop-place l = take l.from l.one ≡ take l.from l.other → take l.place l.one ≡ take l.place l.other
