-- The part of the page that is there, or as many zeros.
use Rattle.std.proofs.Common.{◌-◌, take, drop, ap, ◌∙◌, refl}
use Rattle.std.proofs.lemmas.Option.{slice_get_past, slice_get_read}
use Rattle.extent_bytes.specs.Pages.{page_byte, byte_in}
use Rattle.extent_bytes.proofs.PageFacts.{byte_in-page}
use Rattle.extent_bytes.proofs.ExtentFacts.{part_of-none, part_of-page}
use Rattle.extent_bytes.proofs.paged.part_of_run.Goals as goal

pub returns-in-Some-clause-part : goal.returns-in-Some-clause-part
returns-in-Some-clause-part c =
    let page = c.in-Some.page.now in
    let found = c.in-Some.ensures.lookup in
    ap (λ xs. take (c.args.to - c.args.from) (drop c.args.from xs)) c.as_slice-stored.ensures.bytes
    ∙ part_of-page (byte_in c.args.pages.now) c.args.number c.args.from c.args.to page c.requires.forward c.requires.inside c.as_slice-stored.ensures.len
    (λ i h. byte_in-page c.args.pages.now c.args.number i h ∙ ap (λ o. page_byte o i) (slice_get_read c.args.pages.now _ c.args.number page refl found.3.0 found.1))

pub returns-in-None-clause-none : goal.returns-in-None-clause-none
returns-in-None-clause-none c =
    part_of-none (byte_in c.args.pages.now) c.args.number c.args.from c.args.to c.requires.inside
    (λ i h. byte_in-page c.args.pages.now c.args.number i h ∙ ap (λ o. page_byte o i) (slice_get_past c.args.pages.now c.args.number c.in-None.ensures.lookup.3))
