use Rattle.std.proofs.Common.{ap, ◌∙◌}
use Rattle.replay_program.proofs.SessionLemmas.{length-replies, sequential_text}
use Rattle.replay_program.proofs.session.report_on.Goals as goal

pub report_on-requires-clause-replies : goal.report_on-requires-clause-replies
report_on-requires-clause-replies g c κs within = length-replies c.args.trace.now c.args.replay.now.replies c.requires.replies

pub returns-in-Ok-clause-ok : goal.returns-in-Ok-clause-ok
returns-in-Ok-clause-ok g c =
    sequential_text c.args.trace.now c.state-state.result.now c.args.replay.now.replies c.args.shown c.in-Ok.text
    (c.state-state.ensures ∙ ap (λ d. d.world) c.requires.world) c.requires.replies c.in-Ok.ensures
