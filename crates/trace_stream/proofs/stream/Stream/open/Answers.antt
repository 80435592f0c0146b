use Rattle.trace_stream.proofs.Goes.{opens, open_fails}
use Rattle.trace_stream.proofs.Grows.{out_of}
use Rattle.trace_stream.proofs.stream.Stream.open.Goals as goal

pub returns-in_err-start-clause-err : goal.returns-in_err-start-clause-err
returns-in_err-start-clause-err g c =
    out_of _ _ _ _ c.from_residual-in_err-start.ensures.1 (rw c.in_ok-held.ensures at c.in_err-start.ensures.err) (open_fails c.args.ahead.items _ _)

pub returns-clause-ok : goal.returns-clause-ok
returns-clause-ok g c =
    rw c.in_ok-let_go.ensures.same (opens c.args.ahead.items _ _ (c.in_ok-start.start, record { held = c.start_on.new.held; core = c.in_ok-core.core; front = c.new-2.result }) c.new-2.ensures c.in_ok-core.ensures
    (rw c.in_ok-held.ensures at c.in_ok-start.ensures.ok))
