use Rattle.std.proofs.Common.{◌≡◌, take}
use Rattle.foot_waits.specs.Groups.{latest_between}
use Rattle.foot_waits.proofs.descriptors.Descriptors.latest_between.Given as goal

-- the latest of the groups so far
abbrev pub invariant-loop-group : goal.invariant-loop-group
invariant-loop-group l = l.latest ≡ latest_between l.own l.uses (take l.group-index l.self)
