use Rattle.std.proofs.Common.{◌≡◌, true, length, refl, arith}
use Rattle.std.specs.Prelude.{nat_lt}
use Rattle.std.proofs.lemmas.Bool.{lt-ltb}
use Rattle.trace_format.specs.Sources.{with_rest}
use Rattle.trace_format.specs.Text.{fill}
use Rattle.trace_format.proofs.Exits.{goes_out}
use Rattle.trace_format.proofs.records.fill_of.Goals as goal

pub returns-in_err-ring-clause-read : goal.returns-in_err-ring-clause-read
unfolding fill
returns-in_err-ring-clause-read c =
    goes_out with_rest _ _ _ _ c.from_residual.ensures.1 c.in_err-ring.ensures (λ f e. rw e refl)

pub returns-in_err-buffer-clause-read : goal.returns-in_err-buffer-clause-read
unfolding fill
returns-in_err-buffer-clause-read c =
    let inside : nat_lt c.in_ok-ring.ring (length c.args.rings.now) ≡ true = lt-ltb _ _ (omega arith) in
    goes_out with_rest _ _ _ _ c.from_residual-in_err-buffer.ensures.1 c.in_err-buffer.ensures (λ f e. rw (c.in_ok-ring.ensures, inside, e) refl)

pub returns-in-None-clause-read : goal.returns-in-None-clause-read
unfolding fill
returns-in-None-clause-read c =
    let inside : nat_lt c.in_ok-ring.ring (length c.args.rings.now) ≡ true = lt-ltb _ _ (omega arith) in
    rw (c.refused-in-None.ensures, c.in_ok-ring.ensures, inside, c.in_ok-buffer.ensures, ← c.in-None.ensures) refl

pub returns-in-Some-clause-read : goal.returns-in-Some-clause-read
unfolding fill
returns-in-Some-clause-read c =
    let inside : nat_lt c.in_ok-ring.ring (length c.args.rings.now) ≡ true = lt-ltb _ _ (omega arith) in
    rw (c.in_ok-ring.ensures, inside, c.in_ok-buffer.ensures, ← c.in-Some.ensures) c.filled_of.ensures.read
