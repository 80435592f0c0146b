use Rattle.std.proofs.Common.{refl}
use Rattle.trace_records.specs.Sources.{with_rest}
use Rattle.trace_format.specs.Text.{buffer}
use Rattle.trace_records.proofs.Exits.{goes_out}
use Rattle.trace_records.proofs.rings.buffer_of.Goals as goal

pub returns-in_err-address-clause-read : goal.returns-in_err-address-clause-read
unfolding buffer
returns-in_err-address-clause-read c earlier knows =
    goes_out with_rest _ _ _ _ c.from_residual.ensures.1 c.in_err-address.ensures (λ f e. rw e refl)

pub returns-in_err-len-clause-read : goal.returns-in_err-len-clause-read
unfolding buffer
returns-in_err-len-clause-read c earlier knows =
    goes_out with_rest _ _ _ _ c.from_residual-in_err-len.ensures.1 c.in_err-len.ensures (λ f e. rw (c.in_ok-address.ensures, e) refl)
