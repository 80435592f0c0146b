-- A page within a text is a part of it.
use Rattle.std.proofs.Common.{◌≡◌, ◌+◌, ◌-◌, length, take, drop, arith, ap, subst, sym, ◌∙◌}
use Rattle.extent_bytes.specs.Homes.{IsHome, page_in}
use Rattle.extent_bytes.proofs.Lists.{length-part}
use Rattle.extent_bytes.proofs.page.Page.as_slice.Goals as goal

pub returns-in-Within-clause-bytes : goal.returns-in-Within-clause-bytes
returns-in-Within-clause-bytes c =
    let from = c.in-Within.from in
    let text = c.deref-in-Within.result.now in
    let count : from + 4096 - from ≡ 4096 = omega arith in
    ap (λ n. take n (drop from text)) count
    ∙ ap (λ xs. take 4096 (drop from xs)) (c.deref-in-Within.ensures.value ∙ ap (λ v. v.items) c.deref.ensures)
    ∙ ap page_in (sym c.in-Within.is)
    ∙ c.self.view_is

pub returns-in-Within-clause-len : goal.returns-in-Within-clause-len
returns-in-Within-clause-len c =
    let from = c.in-Within.from in
    let text = c.in-Within.text.value.items in
    let there = subst IsHome c.in-Within.is c.self.invariant in
    let count : 4096 ≡ from + 4096 - from = omega arith in
    ap length (sym (ap page_in (sym c.in-Within.is) ∙ c.self.view_is))
    ∙ ap (λ n. length (take n (drop from text))) count
    ∙ length-part text from (from + 4096) (omega arith) there
    ∙ sym count
