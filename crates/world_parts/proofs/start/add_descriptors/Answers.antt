use Rattle.std.proofs.Common.{arith}
use Rattle.world_parts.proofs.Starts.{held-full, held-empty, descriptors-more}
use Rattle.world_parts.proofs.start.add_descriptors.Goals as goal

pub loop-number-preserved : goal.loop-number-preserved
loop-number-preserved c =
    let more = descriptors-more c.args.descriptors.now c.loop-number.number 0 c.loop-number-test.true in
    grind (arith, held-full, held-empty)
