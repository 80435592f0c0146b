-- None of the items is written, so only the written uses count.
use Rattle.std.proofs.Common.{sym, ◌∙◌}
use Rattle.item_index.specs.Ahead.{touched_before, written_before}
use Rattle.world_parts.specs.Uses.{item_meant}
use Rattle.item_index.proofs.Clear.{written_alone}
use Rattle.item_index.proofs.behind.Behind.collides_one.Goals as goal

pub returns-else-meets_one : goal.returns-else-meets_one
returns-else-meets_one c =
    c.any_written_meets.ensures
    ∙ written_alone (λ u. touched_before c.args.self.now (item_meant u.item)) (λ u. written_before c.args.self.now (item_meant u.item)) c.args.uses.now (sym c.meets_one.ensures ∙ c.if-meets_one.false)
