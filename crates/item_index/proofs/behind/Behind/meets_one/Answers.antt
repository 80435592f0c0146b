use Rattle.std.proofs.Common.{ap, ◌∙◌}
use Rattle.std.specs.Option.{is_some}
use Rattle.item_index.specs.Ahead.{written_before}
use Rattle.world_parts.specs.Uses.{item_meant}
use Rattle.item_index.proofs.Halves.{is_some-position}
use Rattle.item_index.proofs.behind.Behind.meets_one.Goals as goal

pub returns : goal.returns
returns c = c.is_some.ensures ∙ ap is_some c.first_of.ensures.first ∙ is_some-position (λ u. written_before c.args.self.now (item_meant u.item)) 0 c.args.uses.now
