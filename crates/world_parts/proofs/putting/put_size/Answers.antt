use Rattle.std.proofs.Common.{ap, sym, ◌∙◌}
use Rattle.std.specs.Option.{is_some}
use Rattle.std.proofs.lemmas.Result.{on_ok_weaker}
use Rattle.extent_bytes.specs.Bytes.{resized}
use Rattle.finite_maps.specs.Table.{adjust_number}
use Rattle.file_tree.specs.Tree.{rewritten_node}
use Rattle.file_tree.specs.Tree as tree
use Rattle.world_parts.proofs.PutTables.{sized-none, sized-old, sized-new}
use Rattle.world_parts.proofs.putting.put_size.Goals as goal
use Rattle.world_parts.proofs.putting.put_size.Goals.{then-is_none+in_ok-add_node, else-is_none}

pub returns-else-is_some : goal.returns-else-is_some
returns-else-is_some c =
    sized-none c.args.nodes.now c.args.node (tree.size c.args.part.now c.args.node) c.in_default.ensures.value (ap is_some (sym c.size-in_default.ensures.value) ∙ sym c.if-is_some.ensures)

pub returns : goal.returns
returns c = elim c.if-is_none.branch [
  | then-is_none+in_ok-add_node w ↦ on_ok_weaker c.set_size.result (λ e. e ∙ sized-new c.args.nodes.now c.if-is_none.nodes c.args.node c.in-Some.size (tree.size c.args.part.now c.args.node) c.in-Some.ensures.value (ap is_some (sym c.size-2.ensures.value) ∙ w.if-is_none.ensures) (w.nodes-is ∙ w.in_ok-add_node.ensures.ok)) c.set_size.ensures.ok
  | else-is_none w ↦ on_ok_weaker c.set_size.result (λ e. e ∙ ap (λ t. adjust_number (rewritten_node (λ old. resized old c.in-Some.size)) t c.args.node) w.nodes-is ∙ sized-old c.args.nodes.now c.args.node c.in-Some.size (tree.size c.args.part.now c.args.node) c.in-Some.ensures.value (ap is_some (sym c.size-2.ensures.value) ∙ w.if-is_none.ensures)) c.set_size.ensures.ok
]
