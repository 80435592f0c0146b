use Rattle.std.proofs.Common.{ap, ◌∙◌}
use Rattle.std.proofs.lemmas.Result.{on_ok_weaker}
use Rattle.world_parts.specs.Items.{one, slot_at}
use Rattle.world_parts.specs.World.{slot, set_slot, apply}
use Rattle.world_parts.proofs.Copies.{copied_to, slot_copied}
use Rattle.world_parts.proofs.state.State.copy_slot.Goals as goal

pub returns : goal.returns
returns c =
    let s = c.args.from.now in
    let p = c.args.self.now in
    let r = c.args.ring in
    let n = c.args.number in
    on_ok_weaker c.set_slot.result
    (λ e. copied_to s p (apply (set_slot r n (slot s r n)) p) c.set_slot.new.self (one (slot_at r n)) (slot_copied s p r n c.requires) (e ∙ ap (λ x. apply (set_slot r n x) p) c.slot.ensures))
    c.set_slot.ensures
