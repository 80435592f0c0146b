use Rattle.std.proofs.Common.{if◌then◌else◌, ◌∙◌}
use Rattle.item_index.specs.Ahead.{touched_before, written_before}
use Rattle.world_parts.proofs.FootprintCode.{any-meant}
use Rattle.item_index.proofs.behind.Behind.collides.Goals as goal

pub returns : goal.returns
returns c = rw (← c.uses.ensures) (c.collides_one.ensures
    ∙ any-meant (λ u. if u.written then touched_before c.args.self.now u.item else written_before c.args.self.now u.item) c.uses.result.now)
