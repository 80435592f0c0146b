use Rattle.std.proofs.Common.{◌≡◌, ◌+◌, arith, ap, length, ◌∙◌}
use Rattle.std.proofs.lemmas.List.{length_push}
use Rattle.std.proofs.lemmas.Result.{IfOk-from_err}
use Rattle.extent_bytes.proofs.Runs.{taken_more}
use Rattle.extent_bytes.proofs.page_run.stored_run.Goals as goal

pub returns-in_err-run : goal.returns-in_err-run
returns-in_err-run c =
    let out = c.from_residual in record { all = IfOk-from_err out.result _ out.ensures.0; pages = IfOk-from_err out.result _ out.ensures.0 }

pub returns-in_err-clone-in-Some : goal.returns-in_err-clone-in-Some
returns-in_err-clone-in-Some c =
    let out = c.from_residual-in_err-clone-in-Some in record { all = IfOk-from_err out.result _ out.ensures.0; pages = IfOk-from_err out.result _ out.ensures.0 }

pub returns-in_err-push-in-Some : goal.returns-in_err-push-in-Some
returns-in_err-push-in-Some c =
    let out = c.from_residual-in_err-push-in-Some in record { all = IfOk-from_err out.result _ out.ensures.0; pages = IfOk-from_err out.result _ out.ensures.0 }

pub loop-number-preserved : goal.loop-number-preserved
loop-number-preserved c =
    let v = c.loop-number.invariant in
    let xs = c.loop-number.run.items in
    let copy = c.in_ok-clone-in-Some.field-0 in
    let items = c.in_ok-push-in-Some.ensures.items in
    let more : length c.push.new.self.items ≡ length xs + 1 = ap length items ∙ length_push xs copy in record {
      within = omega arith;
      count = omega arith;
      taken = taken_more c.args.pages.now c.args.from c.loop-number.number xs c.push.new.self.items c.in-Some.page.now copy v.count items c.in_ok-clone-in-Some.ensures.cases c.in-Some.ensures.stored v.taken;
    }

pub returns : goal.returns
returns c =
    let v = c.loop-number.invariant in record {
      all = omega arith;
      pages = λ j h. v.taken j (omega arith);
    }
