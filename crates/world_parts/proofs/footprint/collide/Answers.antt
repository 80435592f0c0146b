-- The first list writes part of the second, or the second of the first.
use Rattle.std.proofs.Common.{Bool, ◌||◌, ap, sym, ◌∙◌, map}
use Rattle.world_parts.specs.Items as items
use Rattle.world_parts.specs.Uses.{use_meant}
use Rattle.world_parts.proofs.FootprintCode.{collide-meant, writes_some}
use Rattle.world_parts.proofs.footprint.collide.Goals as goal

pub returns-then-any_writes_some : goal.returns-then-any_writes_some
returns-then-any_writes_some c =
    let us = c.uses-uses.result.now in
    let vs = c.uses-others.result.now in
    c.if-any_writes_some.true ∙ sym (ap (λ (b : Bool). b || writes_some vs us) (sym c.any_writes_some.ensures ∙ c.if-any_writes_some.true))
    ∙ collide-meant us vs ∙ ap (λ f. items.collide f (map use_meant vs)) c.uses-uses.ensures ∙ ap (items.collide c.args.one.now) c.uses-others.ensures

pub returns-else-any_writes_some : goal.returns-else-any_writes_some
returns-else-any_writes_some c =
    let us = c.uses-uses.result.now in
    let vs = c.uses-others.result.now in
    c.any_writes_some-else-any_writes_some.ensures ∙ sym (ap (λ (b : Bool). b || writes_some vs us) (sym c.any_writes_some.ensures ∙ c.if-any_writes_some.false))
    ∙ collide-meant us vs ∙ ap (λ f. items.collide f (map use_meant vs)) c.uses-uses.ensures ∙ ap (items.collide c.args.one.now) c.uses-others.ensures
