use Rattle.std.proofs.Common.{sym, arith}
use Rattle.world_parts.specs.World.{bytes}
use Rattle.world_parts.proofs.ByteWords.{size-some}
use Rattle.replay_report.proofs.tree_sums.tree_sum_of.Goals as goal

pub full_pieces-requires : goal.full_pieces-requires
full_pieces-requires c =
    let long = size-some (bytes c.args.world.now c.args.node) c.args.len (sym c.requires) in
    record { inside = omega (arith, long); fits = omega (arith, c.ranges.len.fits) }
