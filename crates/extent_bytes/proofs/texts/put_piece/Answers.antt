-- A whole page is that part of the text; less is written as it is.
use Rattle.std.proofs.Common.{◌≡◌, ◌≢◌, ℕ, ◌+◌, ◌-◌, ◌≤◌, List, length, take, drop, get_or, arith, ap, subst, ◌∙◌, Some}
use Rattle.std.specs.Prelude.{OnOk}
use Rattle.extent_bytes.specs.Bytes.{range_of}
use Rattle.extent_bytes.specs.Pages.{PageWritten, page_byte, page_of}
use Rattle.extent_bytes.proofs.Lists.{length-part}
use Rattle.extent_bytes.proofs.Outcomes.{on_ok_both}
use Rattle.extent_bytes.proofs.Overlays.{one_page}
use Rattle.extent_bytes.proofs.texts.put_piece.Goals as goal

pub returns-then-bytes-lt-PAGE_SIZE : goal.returns-then-bytes-lt-PAGE_SIZE
unfolding range_of
returns-then-bytes-lt-PAGE_SIZE c =
    subst (λ xs. OnOk c.write.result (PageWritten c.args.pages.now c.write.new.self c.args.number c.args.at (take (c.args.to - c.args.from) (drop c.args.from xs))))
    (c.deref-2.ensures.value ∙ ap (λ v. v.items) c.deref.ensures)
    c.write.ensures.ok

pub returns : goal.returns
unfolding range_of
returns c =
    let m = c.args.pages.now in
    let n = c.put.new.self in
    let k = c.args.number in
    let at = c.args.at in
    let text = c.args.text.now.value.items in
    let same : c.deref-2.result.now ≡ text = c.deref-2.ensures.value ∙ ap (λ v. v.items) c.deref.ensures in
    let bs : List ℕ = take (c.args.to - c.args.from) (drop c.args.from text) in
    let long : length bs ≡ c.args.to - c.args.from = length-part text c.args.from c.args.to c.requires.forward c.requires.inside in
    let all : 4096 ≤ c.args.to - c.args.from = omega (arith, ap length same, length-part c.deref-2.result.now c.args.from c.args.to c.requires.forward (omega (arith, ap length same)), c.if-bytes-lt-PAGE_SIZE.false) in
    let count : 4096 ≡ c.args.to - c.args.from = omega arith in
    let page : c.in_ok-within.field-0 ≡ bs = c.in_ok-within.ensures ∙ ap (λ j. take j (drop c.args.from text)) count in
    on_ok_both c.put.result
    (λ (put : page_of n k ≡ Some c.in_ok-within.field-0) (others : (q : ℕ) → q ≢ k → page_of n q ≡ page_of m q).
    one_page m n k at (at + length bs) _ (omega arith) (omega (arith, long)) others
    (λ i h. absurd (omega arith))
    (λ i h l. ap (λ o. page_byte o i) put ∙ ap (λ xs. get_or xs i 0) page ∙ ap (λ j. get_or bs j 0) (omega arith))
    (λ i h l. absurd (omega (arith, long))))
    c.put.ensures.put c.put.ensures.others
