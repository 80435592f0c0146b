use Rattle.trace_records.specs.Spelling.{record_bytes}
use Rattle.trace_format.proofs.Adds.{adds_one}
use Rattle.trace_records.proofs.writing.put_records.Goals as goal

pub loop-made-preserved : goal.loop-made-preserved
loop-made-preserved c = adds_one _ _ _ record_bytes _ _ _ c.loop-made-test.true c.made-item.is c.loop-made.invariant c.in_ok-write_record.ensures
