use Rattle.std.proofs.lemmas.Result.{IfOk-weaker}
use Rattle.replay_report.proofs.RingTextsLemmas.{world_shown}
use Rattle.replay_report.proofs.report.report_of_texts.Goals as goal

pub returns : goal.returns
returns c =
    IfOk-weaker c.with_world.result _ _ (λ text e. world_shown c.args.trace.now c.args.state.now c.args.shown c.of.result c.as_slice.result.now c.args.texts c.in_ok-world.world.items text
    c.of.ensures c.as_slice.ensures c.in_ok-world.ensures e) c.with_world.ensures
