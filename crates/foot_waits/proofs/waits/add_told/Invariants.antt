use Rattle.std.proofs.Common.{◌≡◌, ℕ, take}
use Rattle.std.specs.BTreeMap.{get}
use Rattle.std.specs.Ordering.{nat_cmp}
use Rattle.foot_waits.specs.Told.{with_told}
use Rattle.foot_waits.proofs.waits.add_told.Given as goal

-- the places so far are there
abbrev pub invariant-loop-place : goal.invariant-loop-place
invariant-loop-place l = (j : ℕ) → get nat_cmp l.found j ≡ with_told (get nat_cmp l.fn.found j) (take l.place-index l.told) l.index j
