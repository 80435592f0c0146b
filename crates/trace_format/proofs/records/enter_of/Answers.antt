use Rattle.std.proofs.Common.{◌≡◌, ◌+◌, true, refl, arith}
use Rattle.std.specs.Prelude.{nat_lt, nat_le}
use Rattle.std.proofs.lemmas.Bool.{lt-ltb, le-leb}
use Rattle.trace_format.specs.Counts.{places_limit}
use Rattle.trace_format.specs.Sources.{with_rest}
use Rattle.trace_format.specs.Text.{enter}
use Rattle.trace_format.proofs.Exits.{goes_out}
use Rattle.trace_format.proofs.records.enter_of.Goals as goal

pub returns-in_err-ring-clause-read : goal.returns-in_err-ring-clause-read
unfolding enter
returns-in_err-ring-clause-read c =
    goes_out with_rest _ _ _ _ c.from_residual.ensures.1 c.in_err-ring.ensures (λ f e. rw e refl)

pub returns-in_err-count-clause-read : goal.returns-in_err-count-clause-read
unfolding enter
returns-in_err-count-clause-read c =
    let inside : nat_lt c.in_ok-ring.ring c.args.rings ≡ true = lt-ltb _ _ (omega arith) in
    goes_out with_rest _ _ _ _ c.from_residual-in_err-count.ensures.1 c.in_err-count.ensures (λ f e. rw (c.in_ok-ring.ensures, inside, e) refl)

pub returns-in_err-entries-clause-read : goal.returns-in_err-entries-clause-read
unfolding enter
returns-in_err-entries-clause-read c =
    let inside : nat_lt c.in_ok-ring.ring c.args.rings ≡ true = lt-ltb _ _ (omega arith) in
    let room : nat_le (c.args.used + c.in_ok-count.count) places_limit ≡ true = le-leb _ _ (omega arith) in
    goes_out with_rest _ _ _ _ c.from_residual-in_err-entries.ensures.1 c.in_err-entries.ensures.read (λ f e. rw (c.in_ok-ring.ensures, inside, c.in_ok-count.ensures, room, e) refl)

pub returns-clause-read : goal.returns-clause-read
unfolding enter
returns-clause-read c =
    let inside : nat_lt c.in_ok-ring.ring c.args.rings ≡ true = lt-ltb _ _ (omega arith) in
    let room : nat_le (c.args.used + c.in_ok-count.count) places_limit ≡ true = le-leb _ _ (omega arith) in
    rw (c.in_ok-ring.ensures, inside, c.in_ok-count.ensures, room, c.in_ok-entries.ensures.read) refl
