use Rattle.std.proofs.Common.{arith}
use Rattle.trace_text.specs.Shown.{buffer_line}
use Rattle.trace_text.proofs.Adds.{numbered_at}
use Rattle.trace_text.proofs.lines.push_buffers.Goals as goal

pub loop-number-preserved : goal.loop-number-preserved
loop-number-preserved c = numbered_at buffer_line 0 c.args.buffers.now c.loop-number.number c.loop-number.number _ _ _ _ c.loop-number-test.true (omega arith) c.loop-number.invariant c.in_ok-push_buffer.ensures
