use Rattle.std.proofs.Common.{refl}
use Rattle.trace_records.specs.Sources.{with_rest}
use Rattle.trace_records.specs.Start.{descriptor}
use Rattle.trace_records.proofs.Exits.{goes_out}
use Rattle.trace_records.proofs.descriptions.descriptor_of.Goals as goal

pub returns-in_err-number-clause-read : goal.returns-in_err-number-clause-read
unfolding descriptor
returns-in_err-number-clause-read c earlier low =
    goes_out with_rest _ _ _ _ c.from_residual.ensures.1 c.in_err-number.ensures.read (λ f e. rw (low, e) refl)

pub returns-in_err-description-clause-read : goal.returns-in_err-description-clause-read
unfolding descriptor
returns-in_err-description-clause-read c earlier low =
    goes_out with_rest _ _ _ _ c.from_residual-in_err-description.ensures.1 c.in_err-description.ensures (λ f e. rw (low, c.in_ok-number.ensures.read, e) refl)

pub returns-clause-read : goal.returns-clause-read
unfolding descriptor
returns-clause-read c earlier low =
    rw (low, c.in_ok-number.ensures.read, c.in_ok-description.ensures) refl
