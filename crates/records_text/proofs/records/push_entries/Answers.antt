use Rattle.std.proofs.Common.{◌+◌, arith}
use Rattle.records_text.specs.Shown.{submitted_line}
use Rattle.trace_text.proofs.Adds.{numbered_adds}
use Rattle.records_text.proofs.records.push_entries.Goals as goal

pub loop-number-preserved : goal.loop-number-preserved
loop-number-preserved c = numbered_adds (submitted_line c.args.look) c.args.place c.args.entries.now c.loop-number.number (c.args.place + c.loop-number.number) _ _ _ _ c.loop-number-test.true c.index-entries-number.is (omega arith) c.loop-number.invariant c.in_ok-push_entry.ensures
