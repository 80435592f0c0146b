use Rattle.std.proofs.Common.{refl}
use Rattle.trace_format.specs.Sources.{with_rest}
use Rattle.trace_format.specs.Text.{one_record}
use Rattle.trace_format.proofs.Exits.{goes_out}
use Rattle.trace_format.proofs.records.record_of.Goals as goal

pub returns-in_err-kind-clause-read : goal.returns-in_err-kind-clause-read
unfolding one_record
returns-in_err-kind-clause-read c =
    goes_out with_rest _ _ _ _ c.from_residual.ensures.1 c.in_err-kind.ensures (λ f e. rw e refl)
