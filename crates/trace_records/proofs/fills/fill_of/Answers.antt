use Rattle.std.proofs.Common.{refl}
use Rattle.trace_records.specs.Sources.{with_rest}
use Rattle.trace_records.specs.Records.{fill}
use Rattle.trace_records.proofs.Exits.{goes_out}
use Rattle.trace_records.proofs.fills.fill_of.Goals as goal

pub returns-in_err-ring-clause-read : goal.returns-in_err-ring-clause-read
unfolding fill
returns-in_err-ring-clause-read c =
    goes_out with_rest _ _ _ _ c.from_residual.ensures.1 c.in_err-ring.ensures (λ f e. rw e refl)

pub returns-in_err-buffer-clause-read : goal.returns-in_err-buffer-clause-read
unfolding fill
returns-in_err-buffer-clause-read c =
    goes_out with_rest _ _ _ _ c.from_residual-in_err-buffer.ensures.1 c.in_err-buffer.ensures (λ f e. rw (c.in_ok-ring.ensures, e) refl)

pub returns-in-None-clause-read : goal.returns-in-None-clause-read
unfolding fill
returns-in-None-clause-read c =
    rw (c.refused.ensures, c.in_ok-ring.ensures, c.in_ok-buffer.ensures, ← c.in-None.ensures) refl

pub returns-in-Some-clause-read : goal.returns-in-Some-clause-read
unfolding fill
returns-in-Some-clause-read c =
    rw (c.in_ok-ring.ensures, c.in_ok-buffer.ensures, ← c.in-Some.ensures) c.filled_of.ensures.read
