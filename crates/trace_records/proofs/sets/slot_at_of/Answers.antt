use Rattle.std.proofs.Common.{refl}
use Rattle.trace_records.specs.Sources.{with_rest}
use Rattle.trace_records.specs.Records.{slot_at}
use Rattle.trace_records.proofs.Exits.{goes_out}
use Rattle.trace_records.proofs.sets.slot_at_of.Goals as goal

pub returns-in_err-ring : goal.returns-in_err-ring
unfolding slot_at
returns-in_err-ring c =
    goes_out with_rest _ _ _ _ c.from_residual.ensures.1 c.in_err-ring.ensures (λ f e. rw e refl)

pub returns-in_err-number : goal.returns-in_err-number
unfolding slot_at
returns-in_err-number c =
    goes_out with_rest _ _ _ _ c.from_residual-in_err-number.ensures.1 (rw c.slots-slots.ensures at c.in_err-number.ensures) (λ f e. rw (c.in_ok-ring.ensures, e) refl)
