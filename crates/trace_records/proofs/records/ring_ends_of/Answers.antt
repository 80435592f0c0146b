use Rattle.std.proofs.Common.{refl}
use Rattle.trace_records.specs.Sources.{with_rest}
use Rattle.trace_records.proofs.Exits.{goes_out}
use Rattle.trace_records.proofs.records.ring_ends_of.Goals as goal

pub returns-in_err-ring-clause-read : goal.returns-in_err-ring-clause-read
returns-in_err-ring-clause-read c =
    goes_out with_rest _ _ _ _ c.from_residual.ensures.1 c.in_err-ring.ensures (λ f e. rw e refl)

pub returns-clause-read : goal.returns-clause-read
returns-clause-read c =
    rw (c.in_ok-ring.ensures) refl
