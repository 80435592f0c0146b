use Rattle.extent_bytes.specs.Pages.{levels}
use Rattle.extent_bytes.proofs.pages.Pages.+splice_in_leaf.Given as goal

abbrev pub decreases-splice_in_leaf : goal.decreases-splice_in_leaf
decreases-splice_in_leaf l = levels l.self.now
