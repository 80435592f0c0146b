-- A map that others have too is copied first.
use Rattle.std.proofs.Common.{◌≡◌, ◌-◌, ◌*◌, ◌/◌, rules, sym, subst, ap, ◌∙◌}
use Rattle.std.specs.Arc.{arc_value}
use Rattle.std.proofs.lemmas.Result.{IfErr-at_err, on_err_weaker, on_ok_weaker, IfOk-from_err}
use Rattle.extent_bytes.specs.Kept.{pages_in}
use Rattle.extent_bytes.specs.Pages.{PageMap, page_of, SamePages, byte_at, SameBytes, Overlaid}
use Rattle.extent_bytes.proofs.Outcomes.{err_of}
use Rattle.extent_bytes.proofs.PageFacts.{same_bytes}
use Rattle.extent_bytes.proofs.Kept.{copied, overlaid_copy}
use Rattle.extent_bytes.proofs.stored.Stored.overlay.Goals as goal

pub returns-in_err-make_mut-in-Shared-clause-err : goal.returns-in_err-make_mut-in-Shared-clause-err
returns-in_err-make_mut-in-Shared-clause-err c =
    let x = arc_value c.make_mut.follows.lender-at-none in
    let e : SamePages (pages_in c.args.self.now) x = λ j. copied (arc_value c.in-Shared.pages) x (IfErr-at_err _ c.in_err-make_mut-in-Shared.was c.make_mut.follows.holds-at-none) j ∙ ap (λ s. page_of (pages_in s) j) (sym c.in-Shared.is) in
    err_of _ (same_bytes _ _ e)

pub returns-in_ok-make_mut-in-Shared-clause-ok : goal.returns-in_ok-make_mut-in-Shared-clause-ok
returns-in_ok-make_mut-in-Shared-clause-ok c =
    let m = pages_in c.args.self.now in
    let x = c.in_ok-make_mut-in-Shared.field-0.now in
    let w = c.overlay-in-Shared.new.pages in
    let e : SamePages m x = λ j. copied (arc_value c.in-Shared.pages) x c.in_ok-make_mut-in-Shared.ensures.value j ∙ ap (λ s. page_of (pages_in s) j) (sym c.in-Shared.is) in
    let d : arc_value (c.make_mut.follows.lender w) ≡ w = search rules in
    let P : PageMap → Type 0 = λ q. Overlaid m q c.args.lo c.args.hi (λ p. byte_at c.args.patch (p - c.args.lo / 4096 * 4096)) in
    on_ok_weaker c.overlay-in-Shared.result (λ o. subst P (sym d) (overlaid_copy m x w c.args.lo c.args.hi _ e o)) c.overlay-in-Shared.ensures.ok

pub returns-in_ok-make_mut-in-Shared-clause-err : goal.returns-in_ok-make_mut-in-Shared-clause-err
returns-in_ok-make_mut-in-Shared-clause-err c =
    let m = pages_in c.args.self.now in
    let x = c.in_ok-make_mut-in-Shared.field-0.now in
    let w = c.overlay-in-Shared.new.pages in
    let e : SamePages m x = λ j. copied (arc_value c.in-Shared.pages) x c.in_ok-make_mut-in-Shared.ensures.value j ∙ ap (λ s. page_of (pages_in s) j) (sym c.in-Shared.is) in
    let d : arc_value (c.make_mut.follows.lender w) ≡ w = search rules in
    let P : PageMap → Type 0 = λ q. SameBytes m q in
    on_err_weaker c.overlay-in-Shared.result (λ h. subst P (sym d) (λ p. h p ∙ same_bytes m x e p)) c.overlay-in-Shared.ensures.err

pub returns-in_err-overlay-in-Own : goal.returns-in_err-overlay-in-Own
returns-in_err-overlay-in-Own c =
    let out = c.from_residual in record { ok = IfOk-from_err out.result _ out.ensures.0; err = err_of out.result (λ p. c.in_err-overlay-in-Own.ensures.err p ∙ ap (λ s. byte_at (pages_in s) p) (sym c.in-Own.is)) }

pub returns-in_err-make_mut-in-Shared-clause-ok : goal.returns-in_err-make_mut-in-Shared-clause-ok
returns-in_err-make_mut-in-Shared-clause-ok c = IfOk-from_err c.from_residual-in_err-make_mut-in-Shared.result _ c.from_residual-in_err-make_mut-in-Shared.ensures.0
