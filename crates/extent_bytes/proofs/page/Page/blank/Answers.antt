-- The array is the page of zeros.
use Rattle.extent_bytes.specs.Pages.{blank_page}
use Rattle.extent_bytes.proofs.page.Page.blank.Goals as goal

pub returns : goal.returns
unfolding blank_page
returns c = c.in_ok-new.ensures.ok
