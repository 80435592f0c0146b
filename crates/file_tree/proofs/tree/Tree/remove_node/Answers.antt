use Rattle.std.proofs.Common.{None}
use Rattle.finite_maps.proofs.Indexed.{seen-assign}
use Rattle.file_tree.proofs.tree.Tree.remove_node.Goals as goal

pub returns : goal.returns
returns c = seen-assign c.self.inside.nodes c.swap_remove.new.self c.args.self.now c.args.number None c.self.view_is c.swap_remove.ensures.updates
