use Rattle.std.proofs.Common.{length, ap, ◌∙◌}
use Rattle.std.proofs.lemmas.Bool.Decides.{Decides-eqb}
use Rattle.extent_bytes.specs.Kept.{pages_in}
use Rattle.extent_bytes.proofs.ExtentFacts.{length_seen}
use Rattle.extent_bytes.proofs.extents.Extents.is_run.Goals as goal

pub returns-else-len-self : goal.returns-else-len-self
returns-else-len-self c =
    let mine = length_seen (pages_in c.self.inside.stored) c.self.inside.start c.self.inside.len c.args.self.now c.self.view_is in
    ((λ e. absurd (c.if-len-self.false ((Decides-eqb _ _).0 e))), (λ e. absurd (c.if-len-self.false (c.len.ensures.value ∙ ap length e ∙ mine))))
