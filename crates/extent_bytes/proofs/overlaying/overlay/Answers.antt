-- The patch was completed, and its pages took their places.
use Rattle.std.proofs.Common.{arith, ap, refl, subst, sym, ℕ, ◌≡◌, ◌+◌, ◌-◌, ◌*◌, ◌/◌, ◌%◌}
use Rattle.std.proofs.lemmas.Result.{IfOk-from_err, on_err_weaker, on_ok_weaker}
use Rattle.extent_bytes.specs.Pages.{byte_at, Completed}
use Rattle.extent_bytes.proofs.Outcomes.{err_of}
use Rattle.extent_bytes.proofs.PageFacts.{same_bytes}
use Rattle.extent_bytes.proofs.Overlays.{overlaid_from, overlaid_to}
use Rattle.extent_bytes.proofs.overlaying.overlay.Goals as goal

pub returns-clause-ok : goal.returns-clause-ok
returns-clause-ok c =
    let m = c.args.pages.now in
    let e : c.div_ceil.result ≡ (c.args.hi + 4095) / 4096 = omega (arith, c.div_ceil.ensures) in
    let P : ℕ → Type 0 = λ n. Completed m c.args.patch c.complete.new.patch (c.args.lo / 4096) n c.args.lo c.args.hi in
    on_ok_weaker c.splice.result
    (λ r. overlaid_from m m c.splice.new.self c.args.patch c.complete.new.patch c.args.lo c.args.hi (c.args.lo / 4096) c.div_ceil.result c.requires.forward refl e (λ p. refl)
    (subst P (sym e) c.in_ok-complete.ensures) r.taken r.below r.above)
    c.splice.ensures.ok

pub returns-clause-err : goal.returns-clause-err
returns-clause-err c = on_err_weaker c.splice.result (λ e. same_bytes _ _ e) c.splice.ensures.err

pub returns-then-first-hi : goal.returns-then-first-hi
returns-then-first-hi c =
    let lo = c.args.lo in
    let hi = c.args.hi in
    let k = lo / 4096 in record {
      ok = on_ok_weaker c.copy_bytes.result (overlaid_to c.args.pages.now c.copy_bytes.new.pages (k * 4096 + lo % 4096) (k * 4096 + (hi - k * 4096)) lo hi _ _ (omega arith) (omega arith) (λ p h l. ap (byte_at c.args.patch) (omega arith))) c.copy_bytes.ensures.ok;
      err = c.copy_bytes.ensures.err;
    }

pub returns-in_err-complete : goal.returns-in_err-complete
returns-in_err-complete c = record { ok = IfOk-from_err c.from_residual.result _ c.from_residual.ensures.0; err = err_of c.from_residual.result (λ p. refl) }
