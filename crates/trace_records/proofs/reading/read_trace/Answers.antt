use Rattle.trace_records.proofs.Going.{refusal}
use Rattle.trace_records.proofs.reading.read_trace.Goals as goal

pub returns-in-Err-clause-fault : goal.returns-in-Err-clause-fault
returns-in-Err-clause-fault c = rw c.as_fault.ensures (refusal c.args.bytes.now c.in-Err.error c.in-Err.ensures.fault)
