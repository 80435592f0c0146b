use Rattle.std.proofs.Common.{sym, ◌∙◌}
use Rattle.finite_maps.proofs.Indexed.{get-of}
use Rattle.file_tree.proofs.tree.Tree.node.Goals as goal

pub returns : goal.returns
returns c = c.value_at.ensures ∙ sym (get-of c.self.inside.nodes.entries c.args.self.now c.args.number c.self.view_is)
