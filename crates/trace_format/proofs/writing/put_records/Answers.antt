use Rattle.trace_format.proofs.Adds.{adds_one}
use Rattle.trace_format.proofs.writing.put_records.Goals as goal

pub loop-made-preserved : goal.loop-made-preserved
loop-made-preserved c = adds_one _ _ _ _ _ _ _ c.loop-made-test.true c.made-item.is c.loop-made.invariant c.in_ok-put_record.ensures
