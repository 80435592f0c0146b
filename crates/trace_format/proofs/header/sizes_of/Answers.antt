use Rattle.std.proofs.Common.{refl}
use Rattle.trace_format.specs.Sources.{counts_meant, with_rest}
use Rattle.trace_format.proofs.Exits.{goes_out}
use Rattle.trace_format.proofs.header.sizes_of.Goals as goal

pub returns-in_err-items-clause-read : goal.returns-in_err-items-clause-read
returns-in_err-items-clause-read c = goes_out (λ x. with_rest (counts_meant x.0, x.1)) _ _ _ _ c.from_residual.ensures.1 c.in_err-items.ensures (λ f e. rw e refl)

pub returns-in_err-descriptions-clause-read : goal.returns-in_err-descriptions-clause-read
returns-in_err-descriptions-clause-read c =
    goes_out (λ x. with_rest (counts_meant x.0, x.1)) _ _ _ _ c.from_residual-in_err-descriptions.ensures.1 c.in_err-descriptions.ensures (λ f e. rw (c.in_ok-items.ensures, e) refl)

pub returns-in_err-rings-clause-read : goal.returns-in_err-rings-clause-read
returns-in_err-rings-clause-read c =
    goes_out (λ x. with_rest (counts_meant x.0, x.1)) _ _ _ _ c.from_residual-in_err-rings.ensures.1 c.in_err-rings.ensures (λ f e. rw (c.in_ok-items.ensures, c.in_ok-descriptions.ensures, e) refl)

pub returns-in_err-records-clause-read : goal.returns-in_err-records-clause-read
returns-in_err-records-clause-read c =
    goes_out (λ x. with_rest (counts_meant x.0, x.1)) _ _ _ _ c.from_residual-in_err-records.ensures.1 c.in_err-records.ensures (λ f e. rw (c.in_ok-items.ensures, c.in_ok-descriptions.ensures, c.in_ok-rings.ensures, e) refl)

pub returns-in_err-descriptors-clause-read : goal.returns-in_err-descriptors-clause-read
returns-in_err-descriptors-clause-read c =
    let failed = rw c.rules.ensures at c.in_err-descriptors.ensures in
    goes_out (λ x. with_rest (counts_meant x.0, x.1)) _ _ _ _ c.from_residual-in_err-descriptors.ensures.1 failed (λ f e. rw (c.in_ok-items.ensures, c.in_ok-descriptions.ensures, c.in_ok-rings.ensures, c.in_ok-records.ensures, e) refl)

pub returns-clause-read : goal.returns-clause-read
returns-clause-read c =
    let descriptors = rw c.rules.ensures at c.in_ok-descriptors.ensures in
    rw (c.in_ok-items.ensures, c.in_ok-descriptions.ensures, c.in_ok-rings.ensures, c.in_ok-records.ensures, descriptors) refl
