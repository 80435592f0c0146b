use Rattle.std.proofs.Common.{refl}
use Rattle.trace_records.specs.Sources.{with_rest}
use Rattle.trace_records.specs.Start.{start}
use Rattle.trace_records.proofs.Exits.{goes_out}
use Rattle.trace_records.proofs.reading.start_of.Goals as goal

pub returns-in_err-counts : goal.returns-in_err-counts
unfolding start
returns-in_err-counts c =
    goes_out with_rest _ _ _ _ c.from_residual.ensures.1 c.in_err-counts.ensures (λ f e. rw e refl)

pub returns-in_err-items : goal.returns-in_err-items
unfolding start
returns-in_err-items c =
    goes_out with_rest _ _ _ _ c.from_residual-in_err-items.ensures.1 c.in_err-items.ensures (λ f e. rw (c.in_ok-counts.ensures, e) refl)

pub returns-in_err-descriptions : goal.returns-in_err-descriptions
unfolding start
returns-in_err-descriptions c =
    goes_out with_rest _ _ _ _ c.from_residual-in_err-descriptions.ensures.1 (rw c.deref.ensures.value at c.in_err-descriptions.ensures) (λ f e. rw (c.in_ok-counts.ensures, c.in_ok-items.ensures, e) refl)

pub returns-in_err-descriptors : goal.returns-in_err-descriptors
unfolding start
returns-in_err-descriptors c =
    let descriptions = rw c.deref.ensures.value at c.in_ok-descriptions.ensures in
    goes_out with_rest _ _ _ _ c.from_residual-in_err-descriptors.ensures.1 c.in_err-descriptors.ensures (λ f e. rw (c.in_ok-counts.ensures, c.in_ok-items.ensures, descriptions, e) refl)

pub returns : goal.returns
unfolding start
returns c =
    let descriptions = rw c.deref.ensures.value at c.in_ok-descriptions.ensures in
    rw (c.in_ok-counts.ensures, c.in_ok-items.ensures, descriptions, c.in_ok-descriptors.ensures, c.from_vec.ensures, c.from_vec-2.ensures, c.from_vec-3.ensures) refl
