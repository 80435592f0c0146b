use Rattle.std.proofs.Common.{◌++◌, ◌∷◌, [], ap, ◌∙◌}
use Rattle.replay_report.proofs.RingTextsLemmas.{heading_more}
use Rattle.replay_report.proofs.ring_texts.RingTexts.new.Goals as goal

pub loop-list-preserved : goal.loop-list-preserved
loop-list-preserved c =
    heading_more c.args.lines c.loop-list.list c.loop-list.texts.items _ c.loop-list.invariant (c.in_ok-push.ensures.items ∙ ap (λ piece. c.loop-list.texts.items ++ piece ∷ []) c.in_ok-heading.ensures)
