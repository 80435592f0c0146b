use Rattle.std.proofs.Common.{arith}
use Rattle.trace_text.specs.Shown.{ring_lines}
use Rattle.trace_text.proofs.Adds.{numbered_adds}
use Rattle.trace_text.proofs.lines.push_rings.Goals as goal

pub loop-number-preserved : goal.loop-number-preserved
loop-number-preserved c = numbered_adds ring_lines 0 c.args.rings.now c.loop-number.number c.loop-number.number _ _ _ _ c.loop-number-test.true c.index-rings-number.is (omega arith) c.loop-number.invariant c.in_ok-push_ring.ensures
