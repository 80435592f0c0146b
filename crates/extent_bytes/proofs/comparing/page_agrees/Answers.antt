-- The part of the page that was compared is that of the range.
use Rattle.std.proofs.Common.{◌+◌, ◌-◌, ◌*◌, List, ℕ, take, drop, subst, sym}
use Rattle.extent_bytes.specs.Pages.{HoldsAt}
use Rattle.extent_bytes.specs.Kept.{byte_held}
use Rattle.extent_bytes.proofs.Compares.{part_agrees}
use Rattle.extent_bytes.proofs.comparing.page_agrees.Goals as goal

pub returns : goal.returns
returns c =
    let base = c.args.number * 4096 in
    let from = c.max-from.result in
    let to = c.min-to.result in
    let same = c.as_slice-stored.ensures.bytes in
    let P : List ℕ → Type 0 = λ xs. HoldsAt (byte_held c.args.other.now) (c.args.other_start + (from - c.args.start)) (take (to - base - (from - base)) (drop (from - base) xs)) in
    let agrees = part_agrees (byte_held c.args.other.now) c.args.number c.args.start c.args.end c.args.other_start from to c.args.page.now
    c.as_slice-stored.ensures.len c.requires.first c.requires.last c.requires.forward c.max-from.ensures c.min-to.ensures in
    ((λ e. agrees.0 (subst P same (c.holds.ensures.0 e))), (λ h. c.holds.ensures.1 (subst P (sym same) (agrees.1 h))))
