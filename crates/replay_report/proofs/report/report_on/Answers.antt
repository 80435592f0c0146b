use Rattle.std.proofs.lemmas.Result.{IfOk-weaker}
use Rattle.replay_report.proofs.RingTextsLemmas.{report_whole, world_shown}
use Rattle.replay_report.proofs.report.report_on.Goals as goal

pub returns : goal.returns
returns g c =
    IfOk-weaker c.with_world.result _ _ (λ text e. report_whole c.args.trace.now c.args.state.now c.args.replies.now c.args.shown c.of-lines.result c.in_ok-texts.texts text c.of-lines.ensures c.in_ok-texts.ensures
    (world_shown c.args.trace.now c.args.state.now c.args.shown c.of-lines.result c.as_slice.result.now c.in_ok-texts.texts c.in_ok-world.world.items text c.of-lines.ensures c.as_slice.ensures c.in_ok-world.ensures e))
    c.with_world.ensures
