use Rattle.trace_format.specs.Spelling.{buffer_bytes}
use Rattle.trace_format.proofs.Adds.{adds_at}
use Rattle.trace_records.proofs.writing.put_buffers.Goals as goal

pub loop-buffer-preserved : goal.loop-buffer-preserved
loop-buffer-preserved c =
    adds_at _ _ _ buffer_bytes _ _ (record { address = 0; len = 0 }) c.loop-buffer-test.true c.loop-buffer.invariant c.in_ok-put_buffer.ensures
