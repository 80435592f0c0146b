use Rattle.std.proofs.Common.{◌≡◌, ◌+◌, true, refl, arith}
use Rattle.std.specs.Prelude.{nat_le}
use Rattle.std.proofs.lemmas.Bool.{le-leb}
use Rattle.trace_format.specs.Sources.{with_rest}
use Rattle.trace_format.proofs.Exits.{goes_out}
use Rattle.trace_format.proofs.records.filled_of.Goals as goal

pub returns-in_err-offset-clause-read : goal.returns-in_err-offset-clause-read
returns-in_err-offset-clause-read c =
    goes_out with_rest _ _ _ _ c.from_residual.ensures.1 c.in_err-offset.ensures.read (λ f e. rw e refl)

pub returns-in_err-len-clause-read : goal.returns-in_err-len-clause-read
returns-in_err-len-clause-read c =
    goes_out with_rest _ _ _ _ c.from_residual-in_err-len.ensures.1 c.in_err-len.ensures.read (λ f e. rw (c.in_ok-offset.ensures.read, e) refl)

pub returns-in_err-bytes-clause-read : goal.returns-in_err-bytes-clause-read
returns-in_err-bytes-clause-read c =
    let within : nat_le (c.in_ok-offset.offset + c.in_ok-len.len) c.args.end ≡ true = le-leb _ _ (omega arith) in
    goes_out with_rest _ _ _ _ c.from_residual-in_err-bytes.ensures.1 c.in_err-bytes.ensures (λ f e. rw (c.in_ok-offset.ensures.read, c.in_ok-len.ensures.read, within, e) refl)

pub returns-clause-read : goal.returns-clause-read
returns-clause-read c =
    let within : nat_le (c.in_ok-offset.offset + c.in_ok-len.len) c.args.end ≡ true = le-leb _ _ (omega arith) in
    rw (c.in_ok-offset.ensures.read, c.in_ok-len.ensures.read, within, c.in_ok-bytes.ensures) refl
