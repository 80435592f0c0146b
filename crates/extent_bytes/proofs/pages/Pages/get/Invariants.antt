use Rattle.std.proofs.Common.{◌≡◌}
use Rattle.extent_bytes.specs.Pages.{page_of}
use Rattle.extent_bytes.proofs.pages.Pages.get.Given as goal

abbrev pub invariant-loop-pages : goal.invariant-loop-pages
invariant-loop-pages l = page_of l.pages l.place ≡ page_of l.self l.number
