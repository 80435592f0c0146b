use Rattle.std.proofs.Common.{◌∙◌}
use Rattle.use_line.specs.Known.{nothing_known}
use Rattle.use_line.proofs.Singles.{or_pushed}
use Rattle.use_line.proofs.spots.Row.grow.Goals as goal

pub loop-alloc-preserved : goal.loop-alloc-preserved
loop-alloc-preserved c = λ i. rw (c.in_ok-push.ensures.items, c.new.ensures) (or_pushed nothing_known c.loop-alloc.self-inside.spots.items i ∙ c.loop-alloc.invariant i)
