use Rattle.std.proofs.Common.{refl}
use Rattle.trace_format.specs.Sources.{with_rest}
use Rattle.trace_format.specs.Text.{file}
use Rattle.trace_format.proofs.Exits.{goes_out}
use Rattle.trace_format.proofs.items.file_of.Goals as goal

pub returns-in_err-size : goal.returns-in_err-size
unfolding file
returns-in_err-size c = goes_out with_rest _ _ _ _ c.from_residual.ensures.1 c.in_err-size.ensures (λ f e. rw e refl)

pub returns-in_err-stored : goal.returns-in_err-stored
unfolding file
returns-in_err-stored c =
    let failed = rw c.min.ensures at c.in_err-stored.ensures in
    goes_out with_rest _ _ _ _ c.from_residual-in_err-stored.ensures.1 failed (λ f e. rw (c.in_ok-size.ensures, e) refl)

pub returns-in_err-stored-2 : goal.returns-in_err-stored-2
unfolding file
returns-in_err-stored-2 c =
    let stored = rw c.min.ensures at c.in_ok-stored.ensures in
    goes_out with_rest _ _ _ _ c.from_residual-in_err-stored-2.ensures.1 c.in_err-stored-2.ensures (λ f e. rw (c.in_ok-size.ensures, stored, e) refl)

pub returns : goal.returns
unfolding file
returns c =
    let stored = rw c.min.ensures at c.in_ok-stored.ensures in
    rw (c.in_ok-size.ensures, stored, c.in_ok-stored-2.ensures) refl
