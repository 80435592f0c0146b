use Rattle.file_tree.specs.Same.{same_node_decides}
use Rattle.finite_maps.proofs.Indexed.{same_maps_decide}
use Rattle.file_tree.proofs.tree.Tree.same.Goals as goal

pub returns : goal.returns
returns c = same_maps_decide same_node_decides c.self.inside.nodes c.other.inside.nodes c.args.self.now c.args.other.now c.self.view_is c.other.view_is c.eq.result c.eq.ensures
