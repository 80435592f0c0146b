use Rattle.std.proofs.Common.{refl}
use Rattle.trace_records.specs.Sources.{with_rest}
use Rattle.trace_records.specs.Records.{seek}
use Rattle.trace_records.proofs.Exits.{goes_out}
use Rattle.trace_records.proofs.sets.seek_of.Goals as goal

pub returns-in_err-file-clause-read : goal.returns-in_err-file-clause-read
unfolding seek
returns-in_err-file-clause-read c =
    goes_out with_rest _ _ _ _ c.from_residual.ensures.1 c.in_err-file.ensures (λ f e. rw e refl)

pub returns-in_err-position-clause-read : goal.returns-in_err-position-clause-read
unfolding seek
returns-in_err-position-clause-read c =
    goes_out with_rest _ _ _ _ c.from_residual-in_err-position.ensures.1 c.in_err-position.ensures (λ f e. rw (c.in_ok-file.ensures, e) refl)

pub returns-clause-read : goal.returns-clause-read
unfolding seek
returns-clause-read c =
    rw (c.in_ok-file.ensures, c.in_ok-position.ensures) refl
