use Rattle.std.proofs.Common.{refl}
use Rattle.trace_format.specs.Sources.{with_rest}
use Rattle.trace_format.specs.Text.{ring}
use Rattle.trace_format.proofs.Exits.{goes_out}
use Rattle.trace_format.proofs.rings.ring_of.Goals as goal

pub returns-in_err-count : goal.returns-in_err-count
unfolding ring
returns-in_err-count c =
    goes_out with_rest _ _ _ _ c.from_residual.ensures.1 c.in_err-count.ensures (λ f e. rw e refl)

pub returns-in_err-slots : goal.returns-in_err-slots
unfolding ring
returns-in_err-slots c =
    goes_out with_rest _ _ _ _ c.from_residual-in_err-slots.ensures.1 c.in_err-slots.ensures (λ f e. rw (c.in_ok-count.ensures, e) refl)

pub returns-in_err-count-2 : goal.returns-in_err-count-2
unfolding ring
returns-in_err-count-2 c =
    goes_out with_rest _ _ _ _ c.from_residual-in_err-count-2.ensures.1 c.in_err-count-2.ensures (λ f e. rw (c.in_ok-count.ensures, c.in_ok-slots.ensures, e) refl)

pub returns-in_err-buffers : goal.returns-in_err-buffers
unfolding ring
returns-in_err-buffers c =
    goes_out with_rest _ _ _ _ c.from_residual-in_err-buffers.ensures.1 c.in_err-buffers.ensures (λ f e. rw (c.in_ok-count.ensures, c.in_ok-slots.ensures, c.in_ok-count-2.ensures, e) refl)

pub returns : goal.returns
unfolding ring
returns c =
    rw (c.in_ok-count.ensures, c.in_ok-slots.ensures, c.in_ok-count-2.ensures, c.in_ok-buffers.ensures, c.from_vec.ensures, c.from_vec-2.ensures) refl
