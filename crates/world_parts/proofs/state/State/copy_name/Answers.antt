use Rattle.std.proofs.Common.{None}
use Rattle.std.proofs.lemmas.Result.{on_ok_weaker}
use Rattle.world_parts.specs.Items.{one, name_at}
use Rattle.world_parts.proofs.Copies.{nearer_still}
use Rattle.world_parts.proofs.CopiesOfNodes.{copied_after}
use Rattle.world_parts.proofs.CopiesOfNames.{no_name_copied, number_of}
use Rattle.world_parts.proofs.state.State.copy_name.Goals as goal

pub returns-in_default : goal.returns-in_default
returns-in_default c =
    let s = c.args.from.now in
    let q = c.copy_node.new.self in
    let near = c.in_ok-copy_node.ensures.nearer in
    copied_after s c.args.self.now q q (one (name_at c.args.directory c.args.name.now)) near (no_name_copied s q c.args.directory c.args.name.now near.shadow (number_of s c.args.directory c.args.name.now None c.in_default.ensures))

pub returns : goal.returns
returns c =
    let s = c.args.from.now in
    let p = c.args.self.now in
    let q = c.copy_node.new.self in
    let r = c.copy_node-2.new.self in
    on_ok_weaker c.show_name.result (copied_after s p r c.show_name.new.self (one (name_at c.args.directory c.args.name.now)) (nearer_still s p q r c.in_ok-copy_node.ensures.nearer c.in_ok-copy_node-2.ensures.nearer)) c.show_name.ensures
