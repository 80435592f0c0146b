use Rattle.std.proofs.Common.{◌≡◌, false, refl}
use Rattle.std.specs.Prelude.{◌==◌}
use Rattle.std.proofs.lemmas.Bool.{ne_eqb}
use Rattle.trace_records.specs.Sources.{with_rest}
use Rattle.trace_records.specs.Records.{next}
use Rattle.trace_records.proofs.Exits.{goes_out}
use Rattle.trace_records.proofs.Taken.{next_takes}
use Rattle.trace_records.proofs.records.next_of.Goals as goal

pub returns-in_err-kind-clause-read : goal.returns-in_err-kind-clause-read
unfolding next
returns-in_err-kind-clause-read c =
    goes_out with_rest _ _ _ _ c.from_residual.ensures.1 c.in_err-kind.ensures (λ f e. rw e refl)

pub returns-in_err-record-clause-read : goal.returns-in_err-record-clause-read
unfolding next
returns-in_err-record-clause-read c =
    let goes : (c.in_ok-kind.kind == 7) ≡ false = ne_eqb _ _ c.if-kind-eq7.false in
    goes_out with_rest _ _ _ _ c.from_residual-in_err-record.ensures.1 c.in_err-record.ensures.read (λ f e. rw (c.in_ok-kind.ensures, ← c.if-not-is_kind.ensures, ← c.if-not-has_room.ensures, goes, e) refl)

pub returns-clause-read : goal.returns-clause-read
unfolding next
returns-clause-read c =
    let goes : (c.in_ok-kind.kind == 7) ≡ false = ne_eqb _ _ c.if-kind-eq7.false in
    rw (c.in_ok-kind.ensures, ← c.if-not-is_kind.ensures, ← c.if-not-has_room.ensures, goes, c.in_ok-record.ensures.read) refl

pub returns-clause-shorter : goal.returns-clause-shorter
returns-clause-shorter c = next_takes _ _ _ _ _ _ _ (returns-clause-read c)
