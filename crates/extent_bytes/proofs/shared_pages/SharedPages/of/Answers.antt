use Rattle.std.proofs.Common.{◌≡◌, IfSome, length, ap, subst, ◌∙◌}
use Rattle.extent_bytes.specs.Bytes.{range_of}
use Rattle.extent_bytes.proofs.Lists.{length-part}
use Rattle.std.proofs.lemmas.Result.{IfOk-from_err}
use Rattle.extent_bytes.proofs.shared_pages.SharedPages.of.Goals as goal

pub returns-clause-len : goal.returns-clause-len
unfolding range_of
returns-clause-len c =
    ap length (subst (λ o. IfSome o (λ run. run ≡ range_of c.args.list.now c.args.lo c.args.hi)) c.in-Some.is c.in_ok-run.ensures)
    ∙ length-part c.args.list.now c.args.lo c.args.hi c.requires.forward c.requires.inside

pub returns-clause-value : goal.returns-clause-value
returns-clause-value c = subst (λ o. IfSome o (λ run. run ≡ range_of c.args.list.now c.args.lo c.args.hi)) c.in-Some.is c.in_ok-run.ensures

pub returns-in_err-run : goal.returns-in_err-run
returns-in_err-run c =
    let out = c.from_residual in record { value = IfOk-from_err out.result _ out.ensures.0; len = IfOk-from_err out.result _ out.ensures.0 }

pub returns-in_err-share : goal.returns-in_err-share
returns-in_err-share c =
    let out = c.from_residual-in_err-share in record { value = IfOk-from_err out.result _ out.ensures.0; len = IfOk-from_err out.result _ out.ensures.0 }

pub returns-in_err-new : goal.returns-in_err-new
returns-in_err-new c =
    let out = c.from_residual-in_err-new in record { value = IfOk-from_err out.result _ out.ensures.0; len = IfOk-from_err out.result _ out.ensures.0 }

pub returns-2 : goal.returns-2
returns-2 c =
    let same = c.in_ok-new.ensures.ok in record { value = same ∙ c.in_ok-share.ensures.value; len = ap length same ∙ c.in_ok-share.ensures.len }
