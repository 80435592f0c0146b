use Rattle.std.proofs.Common.{ap, ◌∙◌}
use Rattle.world_parts.specs.Items.{all_descriptors}
use Rattle.world_parts.specs.World.{World}
use Rattle.world_parts.proofs.Copies.{copied_to, descriptors_copied}
use Rattle.world_parts.proofs.state.State.copy_descriptors.Goals as goal

pub returns : goal.returns
returns c =
    let s = c.args.from.now in
    let p = c.args.self.now in
    copied_to s p (record p { descriptors = s.descriptors }) _ all_descriptors (descriptors_copied s p c.requires)
    (λ i. record (c.self.view_is i) { descriptors = (c.in_ok-descriptors.ensures ∙ ap (λ (w : World). w.descriptors) c.from.view_is) i })
