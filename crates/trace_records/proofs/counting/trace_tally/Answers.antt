use Rattle.trace_records.specs.Whole.{HasFault}
use Rattle.trace_records.proofs.Counted.{trace_counted, trace_faulty}
use Rattle.trace_records.proofs.Going.{start_broken}
use Rattle.trace_records.proofs.Taken.{goes_on_out}
use Rattle.trace_records.proofs.counting.trace_tally.Goals as goal

pub returns-in_err-start-clause-fault : goal.returns-in_err-start-clause-fault
returns-in_err-start-clause-fault c =
    goes_on_out _ _ (HasFault c.args.bytes.now) (HasFault c.args.bytes.now) c.from_residual.ensures.1 (start_broken c.args.bytes.now _ c.in_err-start.ensures) (λ f h. h)

pub returns-clause-trace : goal.returns-clause-trace
returns-clause-trace c = trace_counted c.args.bytes.now c.in_ok-start.start _ _ _ c.in_ok-start.ensures c.tally_of.ensures.records

pub returns-clause-fault : goal.returns-clause-fault
returns-clause-fault c = trace_faulty c.args.bytes.now c.in_ok-start.start _ _ _ c.in_ok-start.ensures c.tally_of.ensures.fault
