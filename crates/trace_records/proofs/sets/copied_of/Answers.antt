use Rattle.std.proofs.Common.{refl}
use Rattle.trace_records.specs.Sources.{with_rest}
use Rattle.trace_records.proofs.Exits.{goes_out}
use Rattle.trace_records.proofs.sets.copied_of.Goals as goal

pub returns-in_err-of : goal.returns-in_err-of
returns-in_err-of c =
    goes_out with_rest _ _ _ _ c.from_residual.ensures.1 c.in_err-of.ensures (λ f e. rw e refl)

pub returns : goal.returns
returns c = rw c.in_ok-of.ensures refl
