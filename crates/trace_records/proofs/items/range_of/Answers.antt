use Rattle.std.proofs.Common.{◌≡◌, ◌+◌, true, refl, arith}
use Rattle.std.proofs.lemmas.Bool.{le-leb}
use Rattle.std.specs.Prelude.{nat_le}
use Rattle.trace_records.specs.Sources.{with_rest}
use Rattle.trace_records.specs.Start.{range}
use Rattle.trace_records.proofs.Exits.{goes_out}
use Rattle.trace_records.proofs.items.range_of.Goals as goal

pub returns-in_err-offset-clause-read : goal.returns-in_err-offset-clause-read
unfolding range
returns-in_err-offset-clause-read c earlier low =
    goes_out (λ x. with_rest (x.0, x.2)) _ _ _ _ c.from_residual.ensures.1 c.in_err-offset.ensures.read (λ f e. rw (low, e) refl)

pub returns-in_err-len-clause-read : goal.returns-in_err-len-clause-read
unfolding range
returns-in_err-len-clause-read c earlier low =
    goes_out (λ x. with_rest (x.0, x.2)) _ _ _ _ c.from_residual-in_err-len.ensures.1 c.in_err-len.ensures (λ f e. rw (low, c.in_ok-offset.ensures.read, e) refl)

pub returns-in_err-bytes-clause-read : goal.returns-in_err-bytes-clause-read
unfolding range
returns-in_err-bytes-clause-read c earlier low =
    let some : nat_le 1 c.in_ok-len.len ≡ true = le-leb _ _ (omega arith) in
    let inside : nat_le (c.in_ok-offset.offset + c.in_ok-len.len) c.args.size ≡ true = le-leb _ _ (omega arith) in
    goes_out (λ x. with_rest (x.0, x.2)) _ _ _ _ c.from_residual-in_err-bytes.ensures.1 c.in_err-bytes.ensures (λ f e. rw (low, c.in_ok-offset.ensures.read, c.in_ok-len.ensures, some, inside, e) refl)

pub returns-clause-read : goal.returns-clause-read
unfolding range
returns-clause-read c earlier low =
    let some : nat_le 1 c.in_ok-len.len ≡ true = le-leb _ _ (omega arith) in
    let inside : nat_le (c.in_ok-offset.offset + c.in_ok-len.len) c.args.size ≡ true = le-leb _ _ (omega arith) in
    rw (low, c.in_ok-offset.ensures.read, c.in_ok-len.ensures, some, inside, c.in_ok-bytes.ensures) refl
