use Rattle.std.proofs.lemmas.Result.{IfOk-weaker}
use Rattle.std.proofs.Common.{◌∙◌}
use Rattle.replay_report.proofs.RingTextsLemmas.{report_whole}
use Rattle.replay_report.proofs.report.report_text.Goals as goal

pub returns : goal.returns
returns c =
    IfOk-weaker c.joined-2.result _ _ (λ text e. e ∙ report_whole c.args.trace.now c.args.state.now c.args.replies.now c.args.shown c.of.result c.in_ok-texts.texts _ c.of.ensures c.in_ok-texts.ensures
    c.in_ok-report_of_texts.ensures) c.joined-2.ensures
