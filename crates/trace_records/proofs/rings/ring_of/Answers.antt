use Rattle.std.proofs.Common.{refl}
use Rattle.trace_records.specs.Sources.{with_rest}
use Rattle.trace_records.specs.Records.{ring}
use Rattle.trace_records.proofs.Exits.{goes_out}
use Rattle.trace_records.proofs.rings.ring_of.Goals as goal

pub returns-in_err-queue : goal.returns-in_err-queue
unfolding ring
returns-in_err-queue c =
    goes_out with_rest _ _ _ _ c.from_residual.ensures.1 c.in_err-queue.ensures (λ f e. rw e refl)

pub returns-in_err-slots : goal.returns-in_err-slots
unfolding ring
returns-in_err-slots c =
    goes_out with_rest _ _ _ _ c.from_residual-in_err-slots.ensures.1 c.in_err-slots.ensures (λ f e. rw (c.in_ok-queue.ensures, e) refl)

pub returns-in_err-count : goal.returns-in_err-count
unfolding ring
returns-in_err-count c =
    goes_out with_rest _ _ _ _ c.from_residual-in_err-count.ensures.1 c.in_err-count.ensures (λ f e. rw (c.in_ok-queue.ensures, c.in_ok-slots.ensures, e) refl)

pub returns-in_err-full : goal.returns-in_err-full
unfolding ring
returns-in_err-full c =
    goes_out with_rest _ _ _ _ c.from_residual-in_err-full.ensures.1 c.in_err-full.ensures (λ f e. rw (c.in_ok-queue.ensures, c.in_ok-slots.ensures, c.in_ok-count.ensures, e) refl)

pub returns-in_err-count-2 : goal.returns-in_err-count-2
unfolding ring
returns-in_err-count-2 c =
    goes_out with_rest _ _ _ _ c.from_residual-in_err-count-2.ensures.1 c.in_err-count-2.ensures (λ f e. rw (c.in_ok-queue.ensures, c.in_ok-slots.ensures, c.in_ok-count.ensures, c.in_ok-full.ensures, e) refl)

pub returns-in_err-buffers : goal.returns-in_err-buffers
unfolding ring
returns-in_err-buffers c =
    goes_out with_rest _ _ _ _ c.from_residual-in_err-buffers.ensures.1 c.in_err-buffers.ensures (λ f e. rw (c.in_ok-queue.ensures, c.in_ok-slots.ensures, c.in_ok-count.ensures, c.in_ok-full.ensures, c.in_ok-count-2.ensures, e) refl)

pub returns : goal.returns
unfolding ring
returns c =
    rw (c.in_ok-queue.ensures, c.in_ok-slots.ensures, c.in_ok-count.ensures, c.in_ok-full.ensures, c.in_ok-count-2.ensures, c.in_ok-buffers.ensures, c.from_vec.ensures, c.from_vec-2.ensures) refl
