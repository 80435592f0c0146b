use Rattle.std.proofs.Common.{add-one, ap, ◌∙◌}
use Rattle.op_meaning.specs.Step.{step_world}
use Rattle.depend_log.proofs.run.Dependencies.run.Goals as goal

pub returns-clause-state : goal.returns-clause-state
returns-clause-state c = rw add-one (c.in_ok-reply.ensures.state ∙ ap (step_world c.args.trace.now c.args.self.now.place) c.requires.state)
