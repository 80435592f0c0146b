use Rattle.std.proofs.Common.{refl}
use Rattle.trace_records.specs.Sources.{with_rest}
use Rattle.trace_records.specs.Records.{zeros}
use Rattle.trace_records.proofs.Exits.{goes_out}
use Rattle.trace_records.proofs.entries.zeros_of.Goals as goal

pub returns-in_err-len : goal.returns-in_err-len
unfolding zeros
returns-in_err-len c =
    goes_out with_rest _ _ _ _ c.from_residual.ensures.1 c.in_err-len.ensures (λ f e. rw e refl)

pub returns-in_err-lengths : goal.returns-in_err-lengths
unfolding zeros
returns-in_err-lengths c =
    goes_out with_rest _ _ _ _ c.from_residual-in_err-lengths.ensures.1 (rw c.lengths_len.ensures at c.in_err-lengths.ensures) (λ f e. rw (c.in_ok-len.ensures, e) refl)
