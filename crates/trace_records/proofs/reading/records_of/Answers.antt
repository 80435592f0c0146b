use Rattle.std.proofs.Common.{◌≡◌, length, sym, arith}
use Rattle.std.proofs.lemmas.Bool.{eqb-true, eqb-false}
use Rattle.std.proofs.lemmas.List.{nil_from_length}
use Rattle.trace_records.proofs.Going.{FaultBehind, one_more, ended, trails, broken}
use Rattle.trace_records.proofs.Taken.{goes_on_out}
use Rattle.trace_records.proofs.reading.records_of.Goals as goal

pub returns-in_err-next-clause-fault : goal.returns-in_err-next-clause-fault
returns-in_err-next-clause-fault c =
    let behind = FaultBehind c.args.start.now c.args.source.place c.args.source.rest.now in
    goes_on_out _ _ behind behind c.from_residual.ensures.1 (broken _ _ _ _ _ _ _ _ c.loop-front.invariant c.in_err-next.ensures.read) (λ f h. h)

pub returns-then-is_empty-clause-records : goal.returns-then-is_empty-clause-records
returns-then-is_empty-clause-records c =
    ended _ _ _ _ _ _ _ _ _ c.loop-front.invariant (rw c.in_default.is at c.in_ok-next.ensures.read) (nil_from_length _ (eqb-true _ _ (sym c.if-is_empty.ensures)))

pub returns-in_default-clause-fault : goal.returns-in_default-clause-fault
returns-in_default-clause-fault c =
    let more : length c.in_ok-next.after.rest.now ≡ 0 → ⊥ = eqb-false _ _ (sym c.if-is_empty.ensures) in
    rw c.refused.ensures (trails _ _ _ _ _ _ _ _ _ c.loop-front.invariant (rw c.in_default.is at c.in_ok-next.ensures.read) (omega (arith, more)))

pub loop-front-preserved : goal.loop-front-preserved
loop-front-preserved c =
    rw (c.in_ok-push.ensures.items, c.in_ok-add.ensures.added) (one_more _ _ _ _ _ _ _ _ _ _ c.loop-front.invariant (rw c.in-Some.is at c.in_ok-next.ensures.read))
