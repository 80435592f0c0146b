use Rattle.op_meaning.proofs.measuring.measuring_open.Goals as goal

pub returns-clause-limits : goal.returns-clause-limits
returns-clause-limits c = c.measured.ensures.limits c.args.state.now c.args.site.ring
