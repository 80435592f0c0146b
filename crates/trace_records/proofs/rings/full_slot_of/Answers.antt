use Rattle.std.proofs.Common.{refl}
use Rattle.trace_records.specs.Sources.{with_rest}
use Rattle.trace_records.specs.Records.{full_slot}
use Rattle.trace_records.proofs.Exits.{goes_out}
use Rattle.trace_records.proofs.rings.full_slot_of.Goals as goal

pub returns-in_err-number-clause-read : goal.returns-in_err-number-clause-read
unfolding full_slot
returns-in_err-number-clause-read c earlier low =
    goes_out with_rest _ _ _ _ c.from_residual.ensures.1 c.in_err-number.ensures.read (λ f e. rw (low, e) refl)

pub returns-in_err-holds-clause-read : goal.returns-in_err-holds-clause-read
unfolding full_slot
returns-in_err-holds-clause-read c earlier low =
    goes_out with_rest _ _ _ _ c.from_residual-in_err-holds.ensures.1 c.in_err-holds.ensures (λ f e. rw (low, c.in_ok-number.ensures.read, e) refl)

pub returns-clause-read : goal.returns-clause-read
unfolding full_slot
returns-clause-read c earlier low =
    rw (low, c.in_ok-number.ensures.read, c.in_ok-holds.ensures) refl
