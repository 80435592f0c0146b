use Rattle.finite_maps.proofs.Indexed.{seen-assign}
use Rattle.file_tree.proofs.tree.Tree.put.Goals as goal

pub returns-clause-ok : goal.returns-clause-ok
returns-clause-ok c = seen-assign c.self.inside.nodes c.insert.new.self c.args.self.now c.args.number _ c.self.view_is c.in_ok-insert.ensures.updates
