use Rattle.std.proofs.Common.{refl}
use Rattle.trace_format.specs.Sources.{with_rest}
use Rattle.trace_format.specs.Text.{trace}
use Rattle.trace_format.proofs.Exits.{goes_out}
use Rattle.trace_format.proofs.reading.trace_of.Goals as goal

pub returns-in_err-descriptions : goal.returns-in_err-descriptions
unfolding trace
returns-in_err-descriptions c =
    let failed = rw c.deref.ensures.value at c.in_err-descriptions.ensures in
    goes_out with_rest _ _ _ _ c.from_residual-in_err-descriptions.ensures.1 failed
    (λ f e. rw (c.in_ok-counts.ensures.read, c.in_ok-items.ensures, e) refl)

pub returns-in_err-descriptors : goal.returns-in_err-descriptors
unfolding trace
returns-in_err-descriptors c =
    let descriptions = rw c.deref.ensures.value at c.in_ok-descriptions.ensures in
    goes_out with_rest _ _ _ _ c.from_residual-in_err-descriptors.ensures.1 c.in_err-descriptors.ensures
    (λ f e. rw (c.in_ok-counts.ensures.read, c.in_ok-items.ensures, descriptions, e) refl)

pub returns-in_err-rings : goal.returns-in_err-rings
unfolding trace
returns-in_err-rings c =
    let descriptions = rw c.deref.ensures.value at c.in_ok-descriptions.ensures in
    goes_out with_rest _ _ _ _ c.from_residual-in_err-rings.ensures.1 c.in_err-rings.ensures
    (λ f e. rw (c.in_ok-counts.ensures.read, c.in_ok-items.ensures, descriptions, c.in_ok-descriptors.ensures, e) refl)

pub returns-in_err-records : goal.returns-in_err-records
unfolding trace
returns-in_err-records c =
    let descriptions = rw c.deref.ensures.value at c.in_ok-descriptions.ensures in
    let failed = rw c.deref-2.ensures.value at c.in_err-records.ensures in
    goes_out with_rest _ _ _ _ c.from_residual-in_err-records.ensures.1 failed
    (λ f e. rw (c.in_ok-counts.ensures.read, c.in_ok-items.ensures, descriptions, c.in_ok-descriptors.ensures, c.in_ok-rings.ensures, e) refl)

pub returns : goal.returns
unfolding trace
returns c =
    let descriptions = rw c.deref.ensures.value at c.in_ok-descriptions.ensures in
    let records = rw c.deref-2.ensures.value at c.in_ok-records.ensures in
    rw (c.in_ok-counts.ensures.read, c.in_ok-items.ensures, descriptions, c.in_ok-descriptors.ensures, c.in_ok-rings.ensures, records, c.from_vec.ensures, c.from_vec-2.ensures, c.from_vec-3.ensures, c.from_vec-4.ensures) refl
