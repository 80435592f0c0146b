use Rattle.std.proofs.Common.{ap, ◌∙◌}
use Rattle.std.proofs.lemmas.Result.{on_ok_weaker}
use Rattle.world_parts.specs.Items.{one, descriptor_at}
use Rattle.world_parts.specs.World.{descriptor, set_descriptor, apply}
use Rattle.world_parts.proofs.Copies.{copied_to, descriptor_copied}
use Rattle.world_parts.proofs.state.State.copy_descriptor.Goals as goal

pub returns : goal.returns
returns c =
    let s = c.args.from.now in
    let p = c.args.self.now in
    let n = c.args.number in
    on_ok_weaker c.set_descriptor.result
    (λ e. copied_to s p (apply (set_descriptor n (descriptor s n)) p) c.set_descriptor.new.self (one (descriptor_at n)) (descriptor_copied s p n c.requires) (e ∙ ap (λ x. apply (set_descriptor n x) p) c.descriptor.ensures))
    c.set_descriptor.ensures
