use Rattle.std.proofs.Common.{ap, ◌++◌, ◌∙◌}
use Rattle.std.specs.List.{concat}
use Rattle.replay_report.proofs.RingTextsLemmas.{texts_between}
use Rattle.replay_report.proofs.ring_texts.RingTexts.with_world.Goals as goal

pub returns : goal.returns
returns c =
    texts_between c.in_ok-head.head.items c.args.world.items c.self.inside.texts.items _ c.push.new.self.items c.in_ok-insert.ensures.items c.in_ok-push.ensures.items
    ∙ ap (λ texts. c.in_ok-head.head.items ++ concat texts ++ c.args.world.items) c.self.view_is
    ∙ ap (λ head. head ++ concat c.args.self ++ c.args.world.items) (c.in_ok-head.ensures.items ∙ c.as_bytes.ensures.value ∙ c.title.ensures)
