use Rattle.std.proofs.Common.{arith}
use Rattle.world_parts.proofs.Starts.{ring_buffers-more}
use Rattle.world_parts.proofs.start.add_all_buffers.Goals as goal

pub loop-number-preserved : goal.loop-number-preserved
loop-number-preserved c =
    let more = ring_buffers-more c.args.rings.now c.loop-number.number c.index-rings-number.result c.loop-number-test.true in
    grind (arith, c.as_slice.ensures, c.in_ok-add_buffers.ensures)
