use Rattle.op_meaning.proofs.measuring.measuring.Goals as goal

pub returns-in-Some-clause-limits : goal.returns-in-Some-clause-limits
returns-in-Some-clause-limits c = c.measured.ensures.limits c.args.state.now c.args.site.ring
