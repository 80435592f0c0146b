use Rattle.std.proofs.Common.{◌≡◌, map, ap, subst, ◌∙◌, arith}
use Rattle.world_parts.specs.Copying.{IsShadow}
use Rattle.world_parts.specs.Items.{Agree}
use Rattle.world_parts.specs.Part.{Divided}
use Rattle.world_parts.specs.Uses.{use_meant}
use Rattle.world_parts.proofs.part.World.cut.Goals as goal

pub returns-clause-part : goal.returns-clause-part
returns-clause-part c =
    let s = c.args.self.now.world in
    let part = c.copy_uses.new.self in
    let copied = c.in_ok-copy_uses.ensures in
    let from : c.deref.result.now ≡ s = c.deref.ensures ∙ ap (λ (d : Divided). d.world) c.self.view_is in
    let uses : map use_meant c.deref-2.result.now ≡ c.args.footprint = ap (map use_meant) c.deref-2.ensures.value ∙ c.footprint.view_is in
    let shadow = subst (λ w. IsShadow w part) from copied.shadow in
    record {
      agrees = subst (λ f. Agree f s part) uses (subst (λ w. Agree (map use_meant c.deref-2.result.now) w part) from copied.agrees);
      nodes = λ i. grind (arith, shadow.outlines i);
      descriptions = shadow.descriptions;
      names = shadow.names;
    }
