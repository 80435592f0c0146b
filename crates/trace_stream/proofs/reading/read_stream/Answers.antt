use Rattle.std.proofs.Common.{arith, refl}
use Rattle.trace_stream.proofs.Goes.{tells_of_start}
use Rattle.trace_stream.proofs.Going.{added, begun, ended_as, faulty_next}
use Rattle.trace_stream.proofs.Grows.{out_of, takes_on}
use Rattle.trace_stream.proofs.reading.read_stream.Goals as goal

pub returns-in_err-start-clause-err : goal.returns-in_err-start-clause-err
returns-in_err-start-clause-err g c =
    out_of _ _ _ _ c.from_residual.ensures.1 c.in_err-start.ensures.err (tells_of_start c.args.ahead.items _ _)

pub loop-records-init : goal.loop-records-init
loop-records-init g c =
    record { going = rw c.new-records.ensures.items (begun _ _ _ _ c.in_ok-start.ensures.ok); failures = omega (arith, c.in_ok-start.ensures.failures) }

pub returns-in_err-add_next-clause-err : goal.returns-in_err-add_next-clause-err
returns-in_err-add_next-clause-err g c =
    out_of _ _ _ _ c.from_residual-in_err-add_next.ensures.1 c.in_err-add_next.ensures.err (λ e f. faulty_next c.args.ahead.items _ _ _ _ _ _ e c.loop-records.invariant.going f)

pub returns-in_err-add_next-clause-taken : goal.returns-in_err-add_next-clause-taken
returns-in_err-add_next-clause-taken g c =
    let going = c.loop-records.invariant.going in takes_on _ _ _ (going.more, going.taken) c.in_err-add_next.ensures.taken

pub returns-then-not-branch-clause-taken : goal.returns-then-not-branch-clause-taken
returns-then-not-branch-clause-taken g c =
    let going = c.loop-records.invariant.going in takes_on _ _ _ (going.more, going.taken) c.in_ok-add_next.ensures.taken

pub loop-records-preserved : goal.loop-records-preserved
loop-records-preserved g c = record {
  going = added _ _ _ _ _ _ _ _ _ c.loop-records.invariant.going (rw c.if-not-branch.false at c.in_ok-add_next.ensures.ok);
  failures = omega (arith, c.in_ok-add_next.ensures.failures, c.loop-records.invariant.failures);
}

pub returns-then-not-branch-clause-ok : goal.returns-then-not-branch-clause-ok
returns-then-not-branch-clause-ok g c =
    ended_as _ _ _ _ _ _ c.add_next.new.stream _ c.add_next.new.records.items (record { start = c.in_ok-start.start; records = c.from_vec.result }) c.loop-records.invariant.going (rw c.if-not-branch.true at c.in_ok-add_next.ensures.ok) refl c.from_vec.ensures
