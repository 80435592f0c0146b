use Rattle.std.proofs.Common.{◌≡◌, map, take}
use Rattle.foot_waits.specs.Rule.{descriptor_uses}
use Rattle.world_parts.specs.Uses.{use_meant}
use Rattle.foot_waits.proofs.descriptors.descriptor_uses.Given as goal

-- those of the uses so far
abbrev pub invariant-loop-used : goal.invariant-loop-used
invariant-loop-used l = l.uses ≡ descriptor_uses (map use_meant (take l.used-index l.used-items))
