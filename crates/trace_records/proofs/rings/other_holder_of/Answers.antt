use Rattle.std.proofs.Common.{refl}
use Rattle.trace_records.specs.Sources.{with_rest}
use Rattle.trace_records.specs.Records.{other_holder}
use Rattle.trace_records.proofs.Exits.{goes_out}
use Rattle.trace_records.proofs.rings.other_holder_of.Goals as goal

pub returns-in_err-source : goal.returns-in_err-source
unfolding other_holder
returns-in_err-source c =
    goes_out with_rest _ _ _ _ c.from_residual.ensures.1 c.in_err-source.ensures (λ f e. rw e refl)

pub returns : goal.returns
unfolding other_holder
returns c =
    rw (c.in_ok-source.ensures) c.number_of.ensures
