use Rattle.extent_bytes.specs.Pages.{levels}
use Rattle.extent_bytes.proofs.pages.Pages.+put.Given as goal

abbrev pub decreases-put : goal.decreases-put
decreases-put l = levels l.self.now
