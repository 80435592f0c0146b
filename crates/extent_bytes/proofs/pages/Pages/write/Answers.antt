use Rattle.std.proofs.Common.{◌≡◌, ◌≢◌, ℕ, sym, refl, ◌∙◌, ap, Some}
use Rattle.std.proofs.lemmas.Result.{on_err_weaker}
use Rattle.extent_bytes.specs.Pages.{page_byte, page_of, blank_page}
use Rattle.extent_bytes.proofs.Kept.{overlaid_copy}
use Rattle.extent_bytes.proofs.Outcomes.{err_of, on_ok_both}
use Rattle.extent_bytes.proofs.Overlays.{one_page-overwritten, rewritten, unwritten}
use Rattle.extent_bytes.proofs.PageFacts.{blank_byte, overlaid-blank, same_bytes}
use Rattle.extent_bytes.proofs.pages.Pages.write.Goals as goal

pub returns-in_err-rewrite-clause-err : goal.returns-in_err-rewrite-clause-err
returns-in_err-rewrite-clause-err c = err_of _ (same_bytes _ _ c.in_err-rewrite.ensures.err)

pub returns-then-branch-clause-ok : goal.returns-then-branch-clause-ok
returns-then-branch-clause-ok c =
    let w = c.in_ok-rewrite.ensures in
    rewritten c.args.self.now c.rewrite.new.self c.args.number c.args.at c.args.bytes.now _ _ c.if-branch.true refl w.ok w.others c.requires

pub returns-then-is_blank-clause-ok : goal.returns-then-is_blank-clause-ok
returns-then-is_blank-clause-ok c =
    let n = c.rewrite.new.self in
    let w = c.in_ok-rewrite.ensures in
    let same = unwritten c.args.self.now n c.args.number c.args.at c.args.bytes.now _ c.if-branch.false w.ok w.others in
    overlaid_copy c.args.self.now n n _ _ _ same.1 (overlaid-blank n c.args.number c.args.at c.args.bytes.now c.requires (same.1 c.args.number ∙ same.0) (c.is_blank.ensures.0 c.if-is_blank.true))

pub returns-in_err-new-clause-err : goal.returns-in_err-new-clause-err
returns-in_err-new-clause-err c =
    let w = c.in_ok-rewrite.ensures in
    let same = unwritten c.args.self.now c.rewrite.new.self c.args.number c.args.at c.args.bytes.now _ c.if-branch.false w.ok w.others in
    err_of _ (same_bytes _ _ same.1)

pub returns-clause-ok : goal.returns-clause-ok
returns-clause-ok c =
    let m = c.args.self.now in
    let k = c.args.number in
    let n = c.put.new.self in
    let w = c.in_ok-rewrite.ensures in
    let same = unwritten m c.rewrite.new.self k c.args.at c.args.bytes.now _ c.if-branch.false w.ok w.others in
    on_ok_both c.put.result
    (λ (put : page_of n k ≡ Some c.in_ok-new.field-0) (others : (j : ℕ) → j ≢ k → page_of n j ≡ page_of c.rewrite.new.self j).
    one_page-overwritten m n k c.args.at c.args.bytes.now blank_page c.requires (λ j ne. others j ne ∙ same.1 j) (put ∙ ap (λ x. Some x) c.in_ok-new.ensures)
    (λ i l. ap (λ o. page_byte o i) same.0 ∙ sym (blank_byte i l)))
    c.put.ensures.put c.put.ensures.others

pub returns-clause-err : goal.returns-clause-err
returns-clause-err c =
    let w = c.in_ok-rewrite.ensures in
    let same = unwritten c.args.self.now c.rewrite.new.self c.args.number c.args.at c.args.bytes.now _ c.if-branch.false w.ok w.others in
    on_err_weaker c.put.result (λ e. same_bytes _ _ (λ j. e j ∙ same.1 j)) c.put.ensures.err
