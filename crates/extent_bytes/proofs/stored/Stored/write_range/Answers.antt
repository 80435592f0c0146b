-- A map that others have too is copied first.
use Rattle.std.proofs.Common.{◌≡◌, min, rules, sym, subst, ap, ◌∙◌}
use Rattle.std.specs.Arc.{arc_value}
use Rattle.std.proofs.lemmas.Result.{IfErr-at_err, on_err_weaker, on_ok_weaker}
use Rattle.extent_bytes.specs.Kept.{pages_in}
use Rattle.extent_bytes.specs.Pages.{PageMap, page_of, SamePages, SameBelow, WrittenAt}
use Rattle.extent_bytes.proofs.Outcomes.{err_of}
use Rattle.extent_bytes.proofs.PageFacts.{same_bytes}
use Rattle.extent_bytes.proofs.Kept.{copied, written_copy}
use Rattle.extent_bytes.proofs.stored.Stored.write_range.Goals as goal

pub returns-in_err-make_mut-in-Shared-clause-err : goal.returns-in_err-make_mut-in-Shared-clause-err
returns-in_err-make_mut-in-Shared-clause-err c =
    let x = arc_value c.make_mut.follows.lender-at-none in
    let e : SamePages (pages_in c.args.self.now) x = λ j. copied (arc_value c.in-Shared.pages) x (IfErr-at_err _ c.in_err-make_mut-in-Shared.was c.make_mut.follows.holds-at-none) j ∙ ap (λ s. page_of (pages_in s) j) (sym c.in-Shared.is) in
    let h : SameBelow (pages_in c.args.self.now) x c.args.end = λ p l. same_bytes _ _ e p in
    err_of _ h

pub returns-in_ok-make_mut-in-Shared-clause-ok : goal.returns-in_ok-make_mut-in-Shared-clause-ok
returns-in_ok-make_mut-in-Shared-clause-ok c =
    let m = pages_in c.args.self.now in
    let x = c.in_ok-make_mut-in-Shared.field-0.now in
    let w = c.write_range-in-Shared.new.pages in
    let e : SamePages m x = λ j. copied (arc_value c.in-Shared.pages) x c.in_ok-make_mut-in-Shared.ensures.value j ∙ ap (λ s. page_of (pages_in s) j) (sym c.in-Shared.is) in
    let d : arc_value (c.make_mut.follows.lender w) ≡ w = search rules in
    let P : PageMap → Type 0 = λ q. WrittenAt m q (min c.args.at c.args.end) c.args.at c.args.bytes.now in
    on_ok_weaker c.write_range-in-Shared.result (λ o. subst P (sym d) (written_copy m x w _ c.args.at c.args.bytes.now e o)) c.write_range-in-Shared.ensures.ok

pub returns-in_ok-make_mut-in-Shared-clause-err : goal.returns-in_ok-make_mut-in-Shared-clause-err
returns-in_ok-make_mut-in-Shared-clause-err c =
    let m = pages_in c.args.self.now in
    let x = c.in_ok-make_mut-in-Shared.field-0.now in
    let w = c.write_range-in-Shared.new.pages in
    let e : SamePages m x = λ j. copied (arc_value c.in-Shared.pages) x c.in_ok-make_mut-in-Shared.ensures.value j ∙ ap (λ s. page_of (pages_in s) j) (sym c.in-Shared.is) in
    let d : arc_value (c.make_mut.follows.lender w) ≡ w = search rules in
    let P : PageMap → Type 0 = λ q. SameBelow m q c.args.end in
    on_err_weaker c.write_range-in-Shared.result (λ h. subst P (sym d) (λ p l. h p l ∙ same_bytes m x e p)) c.write_range-in-Shared.ensures.err
