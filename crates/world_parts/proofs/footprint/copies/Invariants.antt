use Rattle.std.proofs.Common.{◌≡◌, map, take}
use Rattle.world_parts.specs.Uses.{use_meant}
use Rattle.world_parts.proofs.footprint.copies.Given as goal

abbrev pub invariant-loop-used : goal.invariant-loop-used
invariant-loop-used l = l.footprint ≡ map use_meant (take l.used-index l.uses)
