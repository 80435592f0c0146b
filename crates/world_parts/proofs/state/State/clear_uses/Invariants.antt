use Rattle.std.proofs.Common.{◌≡◌, map, drop}
use Rattle.world_parts.specs.Uses.{use_meant}
use Rattle.world_parts.specs.Cutting.{holed}
use Rattle.world_parts.proofs.state.State.clear_uses.Given as goal

abbrev pub invariant-loop-used : goal.invariant-loop-used
invariant-loop-used l = holed (map use_meant (drop l.used-index l.uses)) l.self ≡ holed (map use_meant l.uses) l.fn.self
