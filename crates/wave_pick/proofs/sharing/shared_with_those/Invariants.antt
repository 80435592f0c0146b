use Rattle.std.proofs.Common.{◌≡◌, drop, map}
use Rattle.wave_pick.specs.Holding as model
use Rattle.world_parts.specs.Uses.{use_meant}
use Rattle.wave_pick.proofs.sharing.shared_with_those.Given as goal

-- the use shares nothing with the others so far
abbrev pub invariant-loop-other : goal.invariant-loop-other
invariant-loop-other l = model.shared_with (use_meant l.used) (map use_meant (map (λ u. u.now) l.others)) ≡ model.shared_with (use_meant l.used) (map use_meant (map (λ u. u.now) (drop l.other-index l.others)))
