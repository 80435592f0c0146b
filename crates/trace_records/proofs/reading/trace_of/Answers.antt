use Rattle.trace_records.specs.Whole.{Ends, HasFault}
use Rattle.trace_records.proofs.Going.{FaultBehind, begins, start_broken, records_broken}
use Rattle.trace_records.proofs.Taken.{goes_on_out}
use Rattle.trace_records.proofs.reading.trace_of.Goals as goal

pub returns-in_err-start-clause-fault : goal.returns-in_err-start-clause-fault
returns-in_err-start-clause-fault c =
    goes_on_out _ _ (HasFault c.args.bytes.now) (HasFault c.args.bytes.now) c.from_residual.ensures.1 (start_broken c.args.bytes.now _ c.in_err-start.ensures) (λ f h. h)

pub returns-in_err-records-clause-fault : goal.returns-in_err-records-clause-fault
returns-in_err-records-clause-fault c =
    goes_on_out _ _ (FaultBehind c.in_ok-start.start c.in_ok-start.source.place c.in_ok-start.source.rest.now) (HasFault c.args.bytes.now) c.from_residual-in_err-records.ensures.1 c.in_err-records.ensures.fault (records_broken c.args.bytes.now _ _ _ c.in_ok-start.ensures)

pub returns-clause-trace : goal.returns-clause-trace
returns-clause-trace c =
    rw c.from_vec.ensures (begins (Ends c.in_ok-start.start) c.args.bytes.now _ _ _ _ c.in_ok-start.ensures c.in_ok-records.ensures.records)
