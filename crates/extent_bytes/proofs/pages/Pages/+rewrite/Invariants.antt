use Rattle.extent_bytes.specs.Pages.{levels}
use Rattle.extent_bytes.proofs.pages.Pages.+rewrite.Given as goal

abbrev pub decreases-rewrite : goal.decreases-rewrite
decreases-rewrite l = levels l.self.now
