use Rattle.std.proofs.Common.{arith}
use Rattle.records_text.specs.Shown.{description_line}
use Rattle.trace_text.proofs.Adds.{numbered_at}
use Rattle.records_text.proofs.start.push_descriptions.Goals as goal

pub loop-number-preserved : goal.loop-number-preserved
loop-number-preserved c = numbered_at (description_line c.args.items.now) 0 c.args.descriptions.now c.loop-number.number c.loop-number.number _ _ _ _ c.loop-number-test.true (omega arith) c.loop-number.invariant c.in_ok-push_description.ensures
