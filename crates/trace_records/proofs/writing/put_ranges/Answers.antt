use Rattle.trace_records.specs.Spelling.{range_bytes}
use Rattle.trace_format.proofs.Adds.{adds_one}
use Rattle.trace_records.proofs.writing.put_ranges.Goals as goal

pub loop-range-preserved : goal.loop-range-preserved
loop-range-preserved c = adds_one _ _ _ range_bytes _ _ _ c.loop-range-test.true c.range-item.is c.loop-range.invariant c.in_ok-put_range.ensures
