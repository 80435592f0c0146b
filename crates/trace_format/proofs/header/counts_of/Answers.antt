use Rattle.std.proofs.Common.{◌≡◌, true, false, refl}
use Rattle.std.specs.Prelude.{Bool, not, codes}
use Rattle.std.specs.Str.{bytes_eq}
use Rattle.trace_format.specs.Sources.{counts_meant, with_rest}
use Rattle.trace_format.specs.Text.{header}
use Rattle.trace_format.proofs.Exits.{goes_out}
use Rattle.trace_format.proofs.header.counts_of.Goals as goal

pub returns-in_err-magic-clause-read : goal.returns-in_err-magic-clause-read
unfolding header
returns-in_err-magic-clause-read c =
    goes_out (λ x. with_rest (counts_meant x.0, x.1)) _ _ _ _ c.from_residual.ensures.1 c.in_err-magic.ensures.read (λ f e. rw e refl)

is_true : (b : Bool) → false ≡ not b → b ≡ true
is_true true h = refl
is_true false h = absurd (cc)

pub returns-in_err-number-clause-read : goal.returns-in_err-number-clause-read
unfolding header
returns-in_err-number-clause-read c =
    let magic : bytes_eq c.in_ok-magic.magic.now (codes "URINGTRC") ≡ true = rw c.as_slice.ensures at (is_true _ c.if-ne.ensures) in
    goes_out (λ x. with_rest (counts_meant x.0, x.1)) _ _ _ _ c.from_residual-in_err-number.ensures.1 c.in_err-number.ensures.read (λ f e. rw (c.in_ok-magic.ensures.read, magic, e) refl)

pub returns-in-Some-clause-read : goal.returns-in-Some-clause-read
unfolding header
returns-in-Some-clause-read c =
    let magic : bytes_eq c.in_ok-magic.magic.now (codes "URINGTRC") ≡ true = rw c.as_slice.ensures at (is_true _ c.if-ne.ensures) in
    rw (c.in_ok-magic.ensures.read, magic, c.in_ok-number.ensures.read, ← c.in-Some.ensures) c.sizes_of.ensures.read

pub returns-in-None-clause-read : goal.returns-in-None-clause-read
unfolding header
returns-in-None-clause-read c =
    let magic : bytes_eq c.in_ok-magic.magic.now (codes "URINGTRC") ≡ true = rw c.as_slice.ensures at (is_true _ c.if-ne.ensures) in
    rw (c.refused-in-None.ensures, c.in_ok-magic.ensures.read, magic, c.in_ok-number.ensures.read, ← c.in-None.ensures) refl
