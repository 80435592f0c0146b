use Rattle.std.proofs.Common.{◌∙◌}
use Rattle.item_index.specs.Ahead.{written_before}
use Rattle.item_index.proofs.Any.{position-meant}
use Rattle.item_index.proofs.behind.Behind.first_met.Goals as goal

pub returns-clause-first : goal.returns-clause-first
returns-clause-first c = rw (← c.uses.ensures) (c.first_of.ensures.first ∙ position-meant (λ u. written_before c.args.self.now u.item) 0 c.uses.result.now)
