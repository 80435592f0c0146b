use Rattle.std.proofs.Common.{arith}
use Rattle.world_parts.proofs.Starts.{with_items-more}
use Rattle.world_parts.proofs.state.State.add_items.Goals as goal

pub loop-index-preserved : goal.loop-index-preserved
loop-index-preserved c =
    let more = with_items-more c.args.self.now c.args.items.now c.loop-index.index c.index-items-index.result c.loop-index-test.true in
    record {
      items = grind (arith, c.in_ok-add_item.ensures.named, c.index-items-index.is, c.loop-index.invariant.items);
      known = c.in_ok-add_item.ensures.known;
    }
