use Rattle.std.proofs.Common.{◌≡◌, drop, map}
use Rattle.wave_pick.specs.Holding as model
use Rattle.world_parts.specs.Uses.{use_meant}
use Rattle.wave_pick.proofs.sharing.shared_among.Given as goal

-- the uses so far share nothing with the others
abbrev pub invariant-loop-used : goal.invariant-loop-used
invariant-loop-used l = model.shared_of (map use_meant l.uses) (map use_meant l.others) ≡ model.shared_of (map use_meant (drop l.used-index l.uses)) (map use_meant l.others)
