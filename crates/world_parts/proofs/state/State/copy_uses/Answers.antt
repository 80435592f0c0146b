use Rattle.world_parts.proofs.Cuts.{narrow_at, agree_more}
use Rattle.world_parts.proofs.state.State.copy_uses.Goals as goal

pub copy_use-requires-clause-narrow : goal.copy_use-requires-clause-narrow
copy_use-requires-clause-narrow c = narrow_at c.args.uses.now c.loop-used.used-index c.used-item.result c.loop-used-test.true c.used-item.is c.requires.narrow

pub loop-used-preserved : goal.loop-used-preserved
loop-used-preserved c =
    let copied = c.in_ok-copy_use.ensures in (
      copied.nearer.shadow,
      agree_more c.args.from.now c.loop-used.self c.copy_use.new.self c.args.uses.now c.loop-used.used-index c.used-item.result c.loop-used-test.true c.used-item.is c.loop-used.invariant.1 copied,
    )
