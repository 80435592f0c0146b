use Rattle.std.proofs.Common.{◌≡◌, ◌+◌, true, refl, arith}
use Rattle.std.proofs.lemmas.Bool.{le-leb}
use Rattle.std.specs.Prelude.{nat_le}
use Rattle.trace_records.specs.Front.{places_limit}
use Rattle.trace_records.specs.Sources.{with_rest}
use Rattle.trace_records.specs.Records.{enter}
use Rattle.trace_records.proofs.Exits.{goes_out}
use Rattle.trace_records.proofs.entries.enter_of.Goals as goal

pub returns-in_err-ring-clause-read : goal.returns-in_err-ring-clause-read
unfolding enter
returns-in_err-ring-clause-read c =
    goes_out with_rest _ _ _ _ c.from_residual.ensures.1 c.in_err-ring.ensures (λ f e. rw e refl)

pub returns-in_err-count-clause-read : goal.returns-in_err-count-clause-read
unfolding enter
returns-in_err-count-clause-read c =
    goes_out with_rest _ _ _ _ c.from_residual-in_err-count.ensures.1 c.in_err-count.ensures (λ f e. rw (c.in_ok-ring.ensures, e) refl)

pub returns-in_err-entries-clause-read : goal.returns-in_err-entries-clause-read
unfolding enter
returns-in_err-entries-clause-read c =
    let room : nat_le (c.args.front.now.places + c.in_ok-count.count) places_limit ≡ true = le-leb _ _ (omega arith) in
    goes_out with_rest _ _ _ _ c.from_residual-in_err-entries.ensures.1 c.in_err-entries.ensures.read (λ f e. rw (c.in_ok-ring.ensures, c.in_ok-count.ensures, room, e) refl)

pub returns-clause-read : goal.returns-clause-read
unfolding enter
returns-clause-read c =
    let room : nat_le (c.args.front.now.places + c.in_ok-count.count) places_limit ≡ true = le-leb _ _ (omega arith) in
    rw (c.in_ok-ring.ensures, c.in_ok-count.ensures, room, c.in_ok-entries.ensures.read, c.from_vec-entries.ensures) refl
