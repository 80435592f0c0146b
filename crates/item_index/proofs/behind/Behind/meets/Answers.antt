use Rattle.std.proofs.Common.{◌∙◌}
use Rattle.item_index.specs.Ahead.{written_before}
use Rattle.world_parts.proofs.FootprintCode.{any-meant}
use Rattle.item_index.proofs.behind.Behind.meets.Goals as goal

pub returns : goal.returns
returns c = rw (← c.uses.ensures) (c.meets_one.ensures ∙ any-meant (λ u. written_before c.args.self.now u.item) c.uses.result.now)
