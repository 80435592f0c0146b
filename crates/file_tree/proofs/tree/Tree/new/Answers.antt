use Rattle.std.proofs.Common.{◌∙◌}
use Rattle.finite_maps.specs.Table.{insert, number_keys}
use Rattle.file_tree.proofs.tree.Tree.new.Goals as goal

pub returns : goal.returns
returns c = c.in_ok-put.ensures.ok ∙ (λ i. insert number_keys.total (c.empty-tree.ensures i) 0 (c.new.ensures i))
