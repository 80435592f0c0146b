-- The part of the page that is there, or as many zeros.
use Rattle.std.proofs.Common.{◌-◌, take, drop, ap, ◌∙◌}
use Rattle.extent_bytes.specs.Pages.{page_byte, byte_at}
use Rattle.extent_bytes.proofs.PageFacts.{byte_at-page}
use Rattle.extent_bytes.proofs.ExtentFacts.{part_of-none, part_of-page}
use Rattle.extent_bytes.proofs.page_bytes.part_of_page.Goals as goal

pub returns-in-Some-clause-part : goal.returns-in-Some-clause-part
returns-in-Some-clause-part c =
    let m = c.args.pages.now in
    let page = c.in-Some.page.now in
    ap (λ xs. take (c.args.to - c.args.from) (drop c.args.from xs)) c.as_slice-stored.ensures.bytes
    ∙ part_of-page (byte_at m) c.args.number c.args.from c.args.to page c.requires.forward c.requires.inside c.as_slice-stored.ensures.len
    (λ i h. byte_at-page m c.args.number i h ∙ ap (λ o. page_byte o i) c.in-Some.ensures.stored)

pub returns-in-None-clause-none : goal.returns-in-None-clause-none
returns-in-None-clause-none c =
    part_of-none (byte_at c.args.pages.now) c.args.number c.args.from c.args.to c.requires.inside
    (λ i h. byte_at-page c.args.pages.now c.args.number i h ∙ ap (λ o. page_byte o i) c.in-None.ensures.none)
