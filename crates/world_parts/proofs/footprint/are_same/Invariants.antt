use Rattle.std.proofs.Common.{◌≡◌, map, take}
use Rattle.world_parts.specs.Uses.{use_meant}
use Rattle.world_parts.proofs.footprint.are_same.Given as goal

-- the uses so far are the same
abbrev pub invariant-loop-index : goal.invariant-loop-index
invariant-loop-index l = map use_meant (take l.index l.uses) ≡ map use_meant (take l.index l.others)
