use Rattle.replay_program.proofs.Comparison.{always_equal}
use Rattle.replay_program.proofs.session.comparison.Goals as goal

pub returns-in-Ok-clause-ok : goal.returns-in-Ok-clause-ok
returns-in-Ok-clause-ok g c = let both = c.in-Ok.ensures.ok in always_equal c.args.trace.now c.args.window both.one both.other both.first both.second c.in-Ok.verdict both.verdict
