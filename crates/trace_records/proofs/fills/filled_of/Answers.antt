use Rattle.std.proofs.Common.{refl}
use Rattle.trace_records.specs.Sources.{with_rest}
use Rattle.trace_records.specs.Records.{filled}
use Rattle.trace_records.proofs.Exits.{goes_out}
use Rattle.trace_records.proofs.fills.filled_of.Goals as goal

pub returns-in_err-form-clause-read : goal.returns-in_err-form-clause-read
unfolding filled
returns-in_err-form-clause-read c =
    goes_out with_rest _ _ _ _ c.from_residual.ensures.1 c.in_err-form.ensures (λ f e. rw e refl)

pub returns-in_err-offset-clause-read : goal.returns-in_err-offset-clause-read
unfolding filled
returns-in_err-offset-clause-read c =
    goes_out with_rest _ _ _ _ c.from_residual-in_err-offset.ensures.1 c.in_err-offset.ensures (λ f e. rw (c.in_ok-form.ensures, e) refl)

pub returns-in_err-len-clause-read : goal.returns-in_err-len-clause-read
unfolding filled
returns-in_err-len-clause-read c =
    goes_out with_rest _ _ _ _ c.from_residual-in_err-len.ensures.1 c.in_err-len.ensures (λ f e. rw (c.in_ok-form.ensures, c.in_ok-offset.ensures, e) refl)
