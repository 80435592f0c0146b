use Rattle.std.proofs.Common.{◌≡◌, map, take, filter}
use Rattle.wave_pick.proofs.sharing.written_of.Given as goal

-- the written ones of those so far
abbrev pub invariant-loop-used : goal.invariant-loop-used
invariant-loop-used l = map (λ u. u.now) l.written.items ≡ filter (λ u. u.written) (take l.used-index l.uses)
