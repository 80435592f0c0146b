use Rattle.std.proofs.Common.{ap, ◌∙◌, ◌/◌, ◌%◌, ◌^◌, List, []}
use Rattle.use_line.specs.Known.{Known, row_at}
use Rattle.use_line.proofs.Singles.{or_pushed}
use Rattle.use_line.proofs.spots.Spots.grow.Goals as goal

pub loop-alloc-preserved : goal.loop-alloc-preserved
loop-alloc-preserved c = λ b. rw (c.in_ok-push.ensures.items, c.new.ensures.items) (ap (λ (row : List Known). row_at row (b % 2 ^ 64)) (or_pushed [] c.loop-alloc.self-inside.rows.items (b / 2 ^ 64)) ∙ c.loop-alloc.invariant b)
