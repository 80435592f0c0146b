-- The part of the page that is there.
use Rattle.std.proofs.Common.{ap, ◌∙◌}
use Rattle.extent_bytes.specs.Pages.{page_byte, byte_at}
use Rattle.extent_bytes.proofs.PageFacts.{byte_at-page}
use Rattle.extent_bytes.proofs.ExtentFacts.{part_of-page}
use Rattle.extent_bytes.proofs.page_bytes.shared_part.Goals as goal

pub returns-in_ok-of-in-Some : goal.returns-in_ok-of-in-Some
returns-in_ok-of-in-Some c =
    let m = c.args.pages.now in
    let made = c.in_ok-of-in-Some.ensures in
    made.part
    ∙ part_of-page (byte_at m) c.args.number c.args.from c.args.to c.in-Some.page.now c.requires.forward c.requires.inside made.whole
    (λ i h. byte_at-page m c.args.number i h ∙ ap (λ o. page_byte o i) c.in-Some.ensures.stored)
