use Rattle.std.proofs.Common.{◌∙◌}
use Rattle.std.specs.List.{slice_get}
use Rattle.recording.specs.Steps.{step_meant}
use Rattle.replay_report.specs.Report.{list_count}
use Rattle.replay_report.proofs.RingTextsLemmas.{answer_walked, texts_none}
use Rattle.replay_report.proofs.ring_texts.RingTexts.of.Goals as goal

pub loop-place-init : goal.loop-place-init
loop-place-init c = c.in_ok-texts.ensures ∙ texts_none c.args.trace.now (slice_get c.args.replies.now) c.args.lines (list_count c.args.lines c.args.trace.now)

pub loop-place-preserved : goal.loop-place-preserved
loop-place-preserved c =
    c.in_ok-push.ensures
    ∙ answer_walked c.args.trace.now (slice_get c.args.replies.now) c.args.lines c.loop-place.place (list_count c.args.lines c.args.trace.now) (step_meant c.step.result) c.of_kept.result c.get-reply.result
    c.loop-place.texts c.step.ensures c.get-reply.ensures c.of_kept.ensures c.loop-place.invariant
