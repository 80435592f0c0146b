use Rattle.std.proofs.Common.{map, take}
use Rattle.world_parts.specs.Items.{Agree}
use Rattle.world_parts.specs.Uses.{use_meant}
use Rattle.world_parts.specs.Copying.{IsShadow}
use Rattle.world_parts.proofs.state.State.copy_uses.Given as goal

abbrev pub invariant-loop-used : goal.invariant-loop-used
invariant-loop-used l = IsShadow l.from l.self × Agree (map use_meant (take l.used-index l.uses)) l.from l.self
