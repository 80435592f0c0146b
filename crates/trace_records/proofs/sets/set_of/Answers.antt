use Rattle.std.proofs.Common.{refl}
use Rattle.trace_records.specs.Sources.{with_rest}
use Rattle.trace_records.specs.Records.{set}
use Rattle.trace_records.proofs.Exits.{goes_out}
use Rattle.trace_records.proofs.sets.set_of.Goals as goal

pub returns-in_err-file-clause-read : goal.returns-in_err-file-clause-read
unfolding set
returns-in_err-file-clause-read c =
    goes_out with_rest _ _ _ _ c.from_residual.ensures.1 c.in_err-file.ensures (λ f e. rw e refl)

pub returns-in_err-content-clause-read : goal.returns-in_err-content-clause-read
unfolding set
returns-in_err-content-clause-read c =
    goes_out with_rest _ _ _ _ c.from_residual-in_err-content.ensures.1 c.in_err-content.ensures (λ f e. rw (c.in_ok-file.ensures, e) refl)

pub returns-clause-read : goal.returns-clause-read
unfolding set
returns-clause-read c =
    rw (c.in_ok-file.ensures, c.in_ok-content.ensures) refl
