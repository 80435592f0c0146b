use Rattle.std.proofs.lemmas.Result.{on_ok_weaker}
use Rattle.world_parts.specs.Items.{one, description_at, position_of}
use Rattle.world_parts.proofs.Copies.{copied_to}
use Rattle.world_parts.proofs.CopiesOfNodes.{copied_after, opening_copied, position_copied, no_opening_copied, no_position_copied}
use Rattle.world_parts.proofs.state.State.copy_description.Goals as goal

pub returns-in_default-clause-opened : goal.returns-in_default-clause-opened
returns-in_default-clause-opened c = no_opening_copied c.args.from.now c.args.self.now c.requires c.args.number c.in_default.ensures

pub returns-in_default-clause-position : goal.returns-in_default-clause-position
returns-in_default-clause-position c = no_position_copied c.args.from.now c.args.self.now c.requires c.args.number c.in_default.ensures

pub returns : goal.returns
returns c =
    let s = c.args.from.now in
    let p = c.args.self.now in
    let q = c.copy_node.new.self in
    let near = c.in_ok-copy_node.ensures.nearer in
    let description = one (description_at c.args.number) in
    let position = one (position_of c.args.number) in
    record {
      opened = on_ok_weaker c.add_description.result (copied_to s p _ c.add_description.new.self description (copied_after s p q _ description near (opening_copied s q near.shadow c.args.number c.in-Some.description c.in-Some.ensures c.in_ok-copy_node.ensures.node))) c.add_description.ensures;
      position = on_ok_weaker c.add_description.result (copied_to s p _ c.add_description.new.self position (copied_after s p q _ position near (position_copied s q near.shadow c.args.number c.in-Some.description c.in-Some.ensures c.in_ok-copy_node.ensures.node))) c.add_description.ensures;
    }
