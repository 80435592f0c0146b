use Rattle.trace_records.specs.Spelling.{item_bytes}
use Rattle.trace_format.proofs.Adds.{adds_one}
use Rattle.trace_records.proofs.writing.put_items.Goals as goal

pub loop-item-preserved : goal.loop-item-preserved
loop-item-preserved c = adds_one _ _ _ item_bytes _ _ _ c.loop-item-test.true c.item-item.is c.loop-item.invariant c.in_ok-put_item.ensures
