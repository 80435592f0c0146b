use Rattle.std.proofs.Common.{◌≡◌, ◌-◌, ℕ, suc, length}
use Rattle.use_line.specs.Known.{spot_at}
use Rattle.use_line.proofs.spots.Spots.grow.Given as goal

-- nothing is known of the numbers in the rows more
abbrev pub invariant-loop-alloc : goal.invariant-loop-alloc
invariant-loop-alloc l = (b : ℕ) → spot_at l.self-inside.rows.items b ≡ spot_at l.fn.self b

abbrev pub decreases-loop-alloc : goal.decreases-loop-alloc
decreases-loop-alloc l = suc l.index - length l.self-inside.rows.items
