use Rattle.std.specs.Prelude.{ltb}
use Rattle.finite_maps.specs.Marks.{Marks}
use Rattle.world_parts.proofs.sweeping.mark_below.Given as goal

-- the numbers below the next one are marked
abbrev pub invariant-loop-number : goal.invariant-loop-number
invariant-loop-number l = Marks (λ d. ltb d l.number) l.fn.marks l.marks
