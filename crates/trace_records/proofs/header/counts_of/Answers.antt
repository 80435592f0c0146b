use Rattle.std.proofs.Common.{◌≡◌, true, refl, arith}
use Rattle.std.proofs.lemmas.Bool.{eq-eqb}
use Rattle.std.specs.Prelude.{Bool, false, not, codes, ◌==◌}
use Rattle.std.specs.Str.{bytes_eq}
use Rattle.trace_records.specs.Sources.{with_rest, counts_meant}
use Rattle.trace_records.specs.Start.{header}
use Rattle.trace_records.proofs.Exits.{goes_out}
use Rattle.trace_records.proofs.header.counts_of.Goals as goal

is_true : (b : Bool) → false ≡ not b → b ≡ true
is_true true h = refl
is_true false h = absurd (cc)

pub returns-in_err-magic : goal.returns-in_err-magic
unfolding header
returns-in_err-magic c =
    goes_out (λ x. with_rest (counts_meant x.0, x.1)) _ _ _ _ c.from_residual.ensures.1 c.in_err-magic.ensures.read (λ f e. rw e refl)

pub returns-in_err-version : goal.returns-in_err-version
unfolding header
returns-in_err-version c =
    let magic : bytes_eq c.in_ok-magic.magic.now (codes "URINGTRC") ≡ true = rw c.as_slice.ensures at (is_true _ c.if-ne.ensures) in
    goes_out (λ x. with_rest (counts_meant x.0, x.1)) _ _ _ _ c.from_residual-in_err-version.ensures.1 c.in_err-version.ensures (λ f e. rw (c.in_ok-magic.ensures.read, magic, e) refl)

pub returns-in_err-items : goal.returns-in_err-items
unfolding header
returns-in_err-items c =
    let magic : bytes_eq c.in_ok-magic.magic.now (codes "URINGTRC") ≡ true = rw c.as_slice.ensures at (is_true _ c.if-ne.ensures) in
    let three : (c.in_ok-version.version == 3) ≡ true = eq-eqb _ _ (omega arith) in
    goes_out (λ x. with_rest (counts_meant x.0, x.1)) _ _ _ _ c.from_residual-in_err-items.ensures.1 c.in_err-items.ensures (λ f e. rw (c.in_ok-magic.ensures.read, magic, c.in_ok-version.ensures, three, e) refl)

pub returns-in_err-descriptions : goal.returns-in_err-descriptions
unfolding header
returns-in_err-descriptions c =
    let magic : bytes_eq c.in_ok-magic.magic.now (codes "URINGTRC") ≡ true = rw c.as_slice.ensures at (is_true _ c.if-ne.ensures) in
    let three : (c.in_ok-version.version == 3) ≡ true = eq-eqb _ _ (omega arith) in
    goes_out (λ x. with_rest (counts_meant x.0, x.1)) _ _ _ _ c.from_residual-in_err-descriptions.ensures.1 c.in_err-descriptions.ensures (λ f e. rw (c.in_ok-magic.ensures.read, magic, c.in_ok-version.ensures, three, c.in_ok-items.ensures, e) refl)

pub returns-in_err-table_size : goal.returns-in_err-table_size
unfolding header
returns-in_err-table_size c =
    let magic : bytes_eq c.in_ok-magic.magic.now (codes "URINGTRC") ≡ true = rw c.as_slice.ensures at (is_true _ c.if-ne.ensures) in
    let three : (c.in_ok-version.version == 3) ≡ true = eq-eqb _ _ (omega arith) in
    goes_out (λ x. with_rest (counts_meant x.0, x.1)) _ _ _ _ c.from_residual-in_err-table_size.ensures.1 c.in_err-table_size.ensures (λ f e. rw (c.in_ok-magic.ensures.read, magic, c.in_ok-version.ensures, three, c.in_ok-items.ensures, c.in_ok-descriptions.ensures, e) refl)

pub returns-in_err-descriptors : goal.returns-in_err-descriptors
unfolding header
returns-in_err-descriptors c =
    let magic : bytes_eq c.in_ok-magic.magic.now (codes "URINGTRC") ≡ true = rw c.as_slice.ensures at (is_true _ c.if-ne.ensures) in
    let three : (c.in_ok-version.version == 3) ≡ true = eq-eqb _ _ (omega arith) in
    goes_out (λ x. with_rest (counts_meant x.0, x.1)) _ _ _ _ c.from_residual-in_err-descriptors.ensures.1 c.in_err-descriptors.ensures (λ f e. rw (c.in_ok-magic.ensures.read, magic, c.in_ok-version.ensures, three, c.in_ok-items.ensures, c.in_ok-descriptions.ensures, c.in_ok-table_size.ensures, e) refl)

pub returns-in_err-source : goal.returns-in_err-source
unfolding header
returns-in_err-source c =
    let magic : bytes_eq c.in_ok-magic.magic.now (codes "URINGTRC") ≡ true = rw c.as_slice.ensures at (is_true _ c.if-ne.ensures) in
    let three : (c.in_ok-version.version == 3) ≡ true = eq-eqb _ _ (omega arith) in
    goes_out (λ x. with_rest (counts_meant x.0, x.1)) _ _ _ _ c.from_residual-in_err-source.ensures.1 c.in_err-source.ensures (λ f e. rw (c.in_ok-magic.ensures.read, magic, c.in_ok-version.ensures, three, c.in_ok-items.ensures, c.in_ok-descriptions.ensures, c.in_ok-table_size.ensures, c.in_ok-descriptors.ensures, e) refl)

pub returns : goal.returns
unfolding header
returns c =
    let magic : bytes_eq c.in_ok-magic.magic.now (codes "URINGTRC") ≡ true = rw c.as_slice.ensures at (is_true _ c.if-ne.ensures) in
    let three : (c.in_ok-version.version == 3) ≡ true = eq-eqb _ _ (omega arith) in
    rw (c.in_ok-magic.ensures.read, magic, c.in_ok-version.ensures, three, c.in_ok-items.ensures, c.in_ok-descriptions.ensures, c.in_ok-table_size.ensures, c.in_ok-descriptors.ensures, c.in_ok-source.ensures) refl
