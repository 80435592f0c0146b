use Rattle.std.proofs.Common.{◌≡◌, ◌-◌, ℕ, suc, length}
use Rattle.use_line.specs.Known.{row_at}
use Rattle.use_line.proofs.spots.Row.grow.Given as goal

-- nothing is known of the numbers more
abbrev pub invariant-loop-alloc : goal.invariant-loop-alloc
invariant-loop-alloc l = (i : ℕ) → row_at l.self-inside.spots.items i ≡ row_at l.fn.self i

abbrev pub decreases-loop-alloc : goal.decreases-loop-alloc
decreases-loop-alloc l = suc l.index - length l.self-inside.spots.items
