use Rattle.std.proofs.Common.{◌+◌, ◌-◌, ◌*◌, ◌/◌, ◌%◌, arith, get_or, length, refl, ◌∙◌}
use Rattle.std.proofs.lemmas.Result.{IfOk-from_err}
use Rattle.extent_bytes.proofs.Lists.{get_or-part, length-part}
use Rattle.extent_bytes.proofs.Outcomes.{err_of}
use Rattle.extent_bytes.proofs.Overlays.{overlaid_more, overlaid_nothing, overlaid_to}
use Rattle.extent_bytes.proofs.page_bytes.put_range.Goals as goal

pub loop-done-init : goal.loop-done-init
loop-done-init c = record { within = omega arith; written = overlaid_nothing c.args.pages.now c.args.at (c.args.at + 0) _ (omega arith) }

pub write-requires : goal.write-requires
write-requires c =
    let done = c.loop-done.done in
    let count = c.min-count.ensures in
    let n = length-part c.args.bytes.now done (done + c.min-count.result) (omega arith) (omega arith) in omega arith

pub returns-in_err-write : goal.returns-in_err-write
returns-in_err-write c =
    let out = c.from_residual in record {
      ok = IfOk-from_err out.result _ out.ensures.0;
      err = err_of out.result (λ p h. c.in_err-write.ensures.err p ∙ c.loop-done.invariant.written.below p h);
    }

pub loop-done-preserved : goal.loop-done-preserved
loop-done-preserved c =
    let v = c.loop-done.invariant in
    let at = c.args.at in
    let done = c.loop-done.done in
    let place = at + done in
    let bytes = c.args.bytes.now in
    let count = c.min-count.ensures in
    let n = length-part bytes done (done + c.min-count.result) (omega arith) (omega arith) in record {
      within = omega arith;
      written = overlaid_more c.args.pages.now c.loop-done.pages c.write.new.self at place (at + (done + c.min-count.result)) _ _ (λ p. get_or bytes (p - at) 0) _ v.written c.in_ok-write.ensures.ok (omega arith) (omega arith) (omega arith) (omega arith)
          (λ p h l. get_or-part bytes done (done + c.min-count.result) (p - (place / 4096 * 4096 + place % 4096)) (p - at) (omega arith) (omega arith));
    }

pub returns : goal.returns
returns c =
    let v = c.loop-done.invariant in
    let at = c.args.at in record {
      ok = overlaid_to c.args.pages.now c.loop-done.pages at (at + c.loop-done.done) at (at + length c.args.bytes.now) _ _ refl (omega arith) (λ p h l. refl) v.written;
      err = tt;
    }
