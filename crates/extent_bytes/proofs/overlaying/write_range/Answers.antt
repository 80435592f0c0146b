use Rattle.std.proofs.Common.{arith, ◌∙◌}
use Rattle.std.proofs.lemmas.Result.{IfOk-from_err, on_err_weaker, on_ok_weaker}
use Rattle.extent_bytes.proofs.Outcomes.{err_of}
use Rattle.extent_bytes.proofs.overlaying.write_range.Goals as goal

pub returns-then-at-end : goal.returns-then-at-end
returns-then-at-end c = record {
  ok = on_ok_weaker c.replace_range.result
      (λ o. record { below = λ p h. o.below p (omega arith); gap = λ p h l. absurd (omega arith); inside = o.inside; above = o.above })
      c.replace_range.ensures.ok;
  err = on_err_weaker c.replace_range.result (λ same p h. same p) c.replace_range.ensures.err;
}

pub returns-in_err-zero_range : goal.returns-in_err-zero_range
returns-in_err-zero_range c =
    let out = c.from_residual in record { ok = IfOk-from_err out.result _ out.ensures.0; err = err_of out.result (λ p h. c.in_err-zero_range.ensures.err p) }

pub returns : goal.returns
returns c =
    let zeros = c.in_ok-zero_range.ensures.ok in record {
      ok = on_ok_weaker c.put_range.result
          (λ o. record {
            below = λ p h. o.below p (omega arith) ∙ zeros.below p (omega arith);
            gap = λ p h l. o.below p l ∙ zeros.inside p (omega arith) l;
            inside = o.inside;
            above = λ p h. o.above p h ∙ zeros.above p (omega arith);
          })
          c.put_range.ensures.ok;
      err = on_err_weaker c.put_range.result (λ same p h. same p (omega arith) ∙ zeros.below p h) c.put_range.ensures.err;
    }
