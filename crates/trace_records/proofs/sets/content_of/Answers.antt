use Rattle.std.proofs.Common.{refl}
use Rattle.trace_records.specs.Sources.{with_rest}
use Rattle.trace_records.specs.Records.{content}
use Rattle.trace_records.proofs.Exits.{goes_out}
use Rattle.trace_records.proofs.sets.content_of.Goals as goal

pub returns-in_err-what : goal.returns-in_err-what
unfolding content
returns-in_err-what c =
    goes_out with_rest _ _ _ _ c.from_residual.ensures.1 c.in_err-what.ensures (λ f e. rw e refl)
