use Rattle.trace_records.specs.Spelling.{entry_text}
use Rattle.trace_format.proofs.Adds.{adds_one}
use Rattle.trace_records.proofs.writing.put_entries.Goals as goal

pub loop-entry-preserved : goal.loop-entry-preserved
loop-entry-preserved c = adds_one _ _ _ entry_text _ _ _ c.loop-entry-test.true c.entry-item.is c.loop-entry.invariant c.in_ok-put_entry.ensures
