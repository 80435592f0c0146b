use Rattle.std.proofs.Common.{refl}
use Rattle.trace_records.specs.Sources.{with_rest}
use Rattle.trace_records.specs.Start.{file}
use Rattle.trace_records.proofs.Exits.{goes_out}
use Rattle.trace_records.proofs.items.file_of.Goals as goal

pub returns-in_err-size : goal.returns-in_err-size
unfolding file
returns-in_err-size c =
    goes_out with_rest _ _ _ _ c.from_residual.ensures.1 c.in_err-size.ensures.read (λ f e. rw e refl)

pub returns-in_err-count : goal.returns-in_err-count
unfolding file
returns-in_err-count c =
    goes_out with_rest _ _ _ _ c.from_residual-in_err-count.ensures.1 c.in_err-count.ensures (λ f e. rw (c.in_ok-size.ensures.read, e) refl)

pub returns-in_err-ranges : goal.returns-in_err-ranges
unfolding file
returns-in_err-ranges c =
    goes_out with_rest _ _ _ _ c.from_residual-in_err-ranges.ensures.1 c.in_err-ranges.ensures (λ f e. rw (c.in_ok-size.ensures.read, c.in_ok-count.ensures, e) refl)

pub returns : goal.returns
unfolding file
returns c =
    rw (c.in_ok-size.ensures.read, c.in_ok-count.ensures, c.in_ok-ranges.ensures, c.from_vec.ensures) refl
