use Rattle.std.proofs.Common.{◌∷◌, [], ◌++◌, arith}
use Rattle.trace_stream.proofs.Goes.{tells_of_start}
use Rattle.trace_stream.proofs.Going.{begun, faulty_next, one_more}
use Rattle.trace_stream.proofs.Grows.{out_of, takes_on}
use Rattle.trace_stream.proofs.Tallied.{counted}
use Rattle.trace_stream.proofs.counting.count_stream.Goals as goal

pub returns-in_err-stream-clause-err : goal.returns-in_err-stream-clause-err
returns-in_err-stream-clause-err g c =
    out_of _ _ _ _ c.from_residual.ensures.1 c.in_err-stream.ensures.err (tells_of_start c.args.ahead.items _ _)

pub loop-stream-init : goal.loop-stream-init
loop-stream-init g c =
    record { going = (_, [], begun _ _ _ _ c.in_ok-stream.ensures.ok); failures = omega (arith, c.in_ok-stream.ensures.failures) }

pub returns-in_err-step-clause-err : goal.returns-in_err-step-clause-err
returns-in_err-step-clause-err g c =
    out_of _ _ _ _ c.from_residual-in_err-step.ensures.1 c.in_err-step.ensures.err (λ e f. faulty_next c.args.ahead.items _ _ _ _ _ _ e c.loop-stream.invariant.going.2 f)

pub returns-then-not-branch-clause-ok : goal.returns-then-not-branch-clause-ok
returns-then-not-branch-clause-ok g c =
    counted _ _ _ _ _ _ c.step.new.stream _ _ c.loop-stream.invariant.going.2 (rw c.if-not-branch.true at c.in_ok-step.ensures.ok) c.tally.ensures.places c.tally.ensures.rings

pub loop-stream-preserved : goal.loop-stream-preserved
loop-stream-preserved g c =
    let going = c.loop-stream.invariant.going in
    let steps = rw c.if-not-branch.false at c.in_ok-step.ensures.ok in
    record {
      going = (going.0, going.1 ++ steps.0 ∷ [], one_more _ _ _ _ _ _ _ _ steps.0 going.2 steps.1);
      failures = omega (arith, c.in_ok-step.ensures.failures, c.loop-stream.invariant.failures);
    }

pub returns-in_err-step-clause-taken : goal.returns-in_err-step-clause-taken
returns-in_err-step-clause-taken g c =
    let going = c.loop-stream.invariant.going.2 in takes_on _ _ _ (going.more, going.taken) c.in_err-step.ensures.taken

pub returns-then-not-branch-clause-taken : goal.returns-then-not-branch-clause-taken
returns-then-not-branch-clause-taken g c =
    let going = c.loop-stream.invariant.going.2 in takes_on _ _ _ (going.more, going.taken) c.in_ok-step.ensures.taken
