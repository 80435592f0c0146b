use Rattle.std.proofs.Common.{refl}
use Rattle.trace_records.specs.Sources.{with_rest}
use Rattle.trace_records.proofs.Exits.{goes_out}
use Rattle.trace_records.proofs.sets.descriptor_at_of.Goals as goal

pub returns-in_err-number : goal.returns-in_err-number
returns-in_err-number c =
    goes_out with_rest _ _ _ _ c.from_residual.ensures.1 c.in_err-number.ensures (λ f e. rw e refl)

pub returns : goal.returns
returns c = rw c.in_ok-number.ensures refl
