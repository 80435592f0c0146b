use Rattle.std.proofs.Common.{arith}
use Rattle.trace_records.specs.Records.{next}
use Rattle.trace_records.proofs.Taken.{taken, told}
use Rattle.trace_records.proofs.reading.record_from.Goals as goal

pub returns-in-Ok-clause-taken : goal.returns-in-Ok-clause-taken
returns-in-Ok-clause-taken c =
    (omega (arith, c.in-Ok.ensures.shorter), omega arith, taken (next c.args.start.now c.args.front.now) c.args.source.place _ _ _ _ c.in-Ok.ensures.read)

pub returns-in-Err-clause-fault : goal.returns-in-Err-clause-fault
returns-in-Err-clause-fault c =
    rw c.as_fault.ensures (told (next c.args.start.now c.args.front.now) c.args.source.place _ c.in-Err.error c.in-Err.ensures.read)
