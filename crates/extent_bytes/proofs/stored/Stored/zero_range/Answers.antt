-- A map that others have too is copied first.
use Rattle.std.proofs.Common.{arith, refl, ◌≡◌, ◌/◌, rules, sym, subst, ap, ◌∙◌}
use Rattle.std.specs.Arc.{arc_value}
use Rattle.std.proofs.lemmas.Result.{IfErr-at_err, on_err_weaker, on_ok_weaker, IfOk-from_err}
use Rattle.extent_bytes.specs.Kept.{pages_in}
use Rattle.extent_bytes.specs.Pages.{PageMap, page_of, SamePages, SameBytes, Overlaid, byte_at}
use Rattle.extent_bytes.proofs.Outcomes.{err_of}
use Rattle.extent_bytes.proofs.PageFacts.{same_bytes}
use Rattle.extent_bytes.proofs.Kept.{copied, overlaid_copy, overlaid_none}
use Rattle.extent_bytes.proofs.Overlays.{overlaid_nothing}
use Rattle.extent_bytes.proofs.stored.Stored.zero_range.Goals as goal

pub returns-then-is_hole : goal.returns-then-is_hole
returns-then-is_hole c =
    let P : PageMap → Type 0 = λ q. Overlaid q q c.args.lo c.args.hi (λ _. 0) in
    let hole = c.is_hole.ensures c.if-is_hole.true in record {
      ok = subst P c.pages.ensures (overlaid_none c.pages.result.now c.args.lo c.args.hi (c.args.lo / 4096) c.div_ceil.result refl (omega (arith, c.div_ceil.ensures)) hole);
      err = tt;
    }

pub returns-in_err-make_mut-in-Shared-clause-err : goal.returns-in_err-make_mut-in-Shared-clause-err
returns-in_err-make_mut-in-Shared-clause-err c =
    let x = arc_value c.make_mut.follows.lender-at-none in
    let e : SamePages (pages_in c.args.self.now) x = λ j. copied (arc_value c.in-Shared.pages) x (IfErr-at_err _ c.in_err-make_mut-in-Shared.was c.make_mut.follows.holds-at-none) j ∙ ap (λ s. page_of (pages_in s) j) (sym c.in-Shared.is) in
    err_of _ (same_bytes _ _ e)

pub returns-in_ok-make_mut-in-Shared-clause-ok : goal.returns-in_ok-make_mut-in-Shared-clause-ok
returns-in_ok-make_mut-in-Shared-clause-ok c =
    let m = pages_in c.args.self.now in
    let x = c.in_ok-make_mut-in-Shared.field-0.now in
    let w = c.zero_range-in-Shared.new.pages in
    let e : SamePages m x = λ j. copied (arc_value c.in-Shared.pages) x c.in_ok-make_mut-in-Shared.ensures.value j ∙ ap (λ s. page_of (pages_in s) j) (sym c.in-Shared.is) in
    let d : arc_value (c.make_mut.follows.lender w) ≡ w = search rules in
    let P : PageMap → Type 0 = λ q. Overlaid m q c.args.lo c.args.hi (λ _. 0) in
    on_ok_weaker c.zero_range-in-Shared.result (λ o. subst P (sym d) (overlaid_copy m x w c.args.lo c.args.hi _ e o)) c.zero_range-in-Shared.ensures.ok

pub returns-in_ok-make_mut-in-Shared-clause-err : goal.returns-in_ok-make_mut-in-Shared-clause-err
returns-in_ok-make_mut-in-Shared-clause-err c =
    let m = pages_in c.args.self.now in
    let x = c.in_ok-make_mut-in-Shared.field-0.now in
    let w = c.zero_range-in-Shared.new.pages in
    let e : SamePages m x = λ j. copied (arc_value c.in-Shared.pages) x c.in_ok-make_mut-in-Shared.ensures.value j ∙ ap (λ s. page_of (pages_in s) j) (sym c.in-Shared.is) in
    let d : arc_value (c.make_mut.follows.lender w) ≡ w = search rules in
    let P : PageMap → Type 0 = λ q. SameBytes m q in
    on_err_weaker c.zero_range-in-Shared.result (λ h. subst P (sym d) (λ p. h p ∙ same_bytes m x e p)) c.zero_range-in-Shared.ensures.err

pub returns-then-lo-hi : goal.returns-then-lo-hi
returns-then-lo-hi c = record { ok = overlaid_nothing (pages_in c.args.self.now) c.args.lo c.args.hi _ (omega arith); err = tt }

pub returns-in_err-make_mut-in-Shared-clause-ok : goal.returns-in_err-make_mut-in-Shared-clause-ok
returns-in_err-make_mut-in-Shared-clause-ok c = IfOk-from_err c.from_residual.result _ c.from_residual.ensures.0

pub returns-in-Own : goal.returns-in-Own
returns-in-Own c =
    let P : PageMap → Type 0 = λ q. Overlaid q c.zero_range.new.pages c.args.lo c.args.hi (λ _. 0) in
    let own = ap pages_in (sym c.in-Own.is) in record {
      ok = on_ok_weaker c.zero_range.result (subst P own) c.zero_range.ensures.ok;
      err = on_err_weaker c.zero_range.result (λ same p. same p ∙ ap (λ q. byte_at q p) own) c.zero_range.ensures.err;
    }
