-- The pages hold the bytes of the text.
use Rattle.std.proofs.Common.{◌≡◌, ◌+◌, ◌-◌, ◌%◌, take, drop, arith, ap, sym, ◌∙◌, refl}
use Rattle.extent_bytes.proofs.Lists.{get_or-part, length-part}
use Rattle.extent_bytes.proofs.ExtentFacts.{bytes_of-is, length-bytes_of}
use Rattle.extent_bytes.specs.Pages.{bytes_of}
use Rattle.extent_bytes.proofs.extents.Extents.of_text.Goals as goal

pub returns-clause-value : goal.returns-clause-value
returns-clause-value c =
    let from = c.args.from in
    let to = c.args.from + c.args.count in
    let text = c.args.text.now.value.items in
    let count : to - from ≡ c.args.count = omega arith in
    ap (λ m. bytes_of m (c.args.at % 4096) c.args.count) c.settle.ensures ∙ bytes_of-is c.in_ok-pages.pages (c.args.at % 4096) c.args.count (take (to - from) (drop from text)) (length-part text from to (omega arith) c.requires.inside ∙ count)
    (λ i l. c.in_ok-pages.ensures i (omega arith) ∙ sym (get_or-part text from to i (from + i) (omega arith) refl))
    ∙ ap (λ n. take n (drop from text)) count

pub returns-clause-len : goal.returns-clause-len
returns-clause-len c = length-bytes_of _ _ _
