use Rattle.std.proofs.Common.{ap, ◌∙◌}
use Rattle.std.proofs.lemmas.Result.{IfOk-weaker}
use Rattle.recording.specs.Steps.{places}
use Rattle.op_meaning.specs.Step.{sequential_reply}
use Rattle.replay_report.specs.RingTexts.{texts_below}
use Rattle.replay_program.proofs.InTurn.{report_made}
use Rattle.replay_program.proofs.in_turn.report_in_turn.Goals as goal

pub returns : goal.returns
returns c =
    let t = c.args.trace.now in
    let texts = c.in_ok-texts.ensures.texts ∙ ap (λ lines. texts_below t (sequential_reply t) lines (places t)) c.of-lines.ensures in
    IfOk-weaker c.report_of_texts-report.result _ _ (λ text e. report_made t c.in_ok-texts.texts c.texts_in_turn.new.state c.args.shown text texts c.in_ok-texts.ensures.world e)
    c.report_of_texts-report.ensures
