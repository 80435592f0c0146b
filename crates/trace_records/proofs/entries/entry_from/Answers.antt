use Rattle.std.proofs.Common.{refl}
use Rattle.trace_records.specs.Sources.{with_rest}
use Rattle.trace_records.specs.Records.{entry}
use Rattle.trace_records.proofs.Exits.{goes_out}
use Rattle.trace_records.proofs.entries.entry_from.Goals as goal

pub returns-in_err-bytes : goal.returns-in_err-bytes
unfolding entry
returns-in_err-bytes c =
    goes_out with_rest _ _ _ _ c.from_residual.ensures.1 c.in_err-bytes.ensures.read (λ f e. rw e refl)

pub returns-in_err-form : goal.returns-in_err-form
unfolding entry
returns-in_err-form c =
    goes_out with_rest _ _ _ _ c.from_residual-in_err-form.ensures.1 c.in_err-form.ensures (λ f e. rw (c.in_ok-bytes.ensures.read, e) refl)
