use Rattle.trace_records.specs.Start.{start}
use Rattle.trace_records.proofs.Taken.{taken_first, told}
use Rattle.trace_records.proofs.reading.read_start.Goals as goal

pub returns-in-Ok-clause-taken : goal.returns-in-Ok-clause-taken
returns-in-Ok-clause-taken c = taken_first start _ _ _ _ c.in-Ok.ensures

pub returns-in-Err-clause-fault : goal.returns-in-Err-clause-fault
returns-in-Err-clause-fault c = rw c.as_fault.ensures (told start 0 _ c.in-Err.error c.in-Err.ensures)
