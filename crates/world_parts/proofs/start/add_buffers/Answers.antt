use Rattle.std.proofs.Common.{arith}
use Rattle.trace_format.specs.declared.trace.Buffer.{Buffer}
use Rattle.world_parts.proofs.Starts.{zeros-full, zeros-empty, buffers-more}
use Rattle.world_parts.proofs.start.add_buffers.Goals as goal

pub loop-index-preserved : goal.loop-index-preserved
loop-index-preserved c =
    let none : Buffer = record { address = 0; len = 0 } in
    let more = buffers-more c.args.ring c.args.buffers.now c.args.table.now c.loop-index.index none c.loop-index-test.true in
    grind (arith, zeros-full, zeros-empty)
