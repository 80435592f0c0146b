use Rattle.op_meaning.proofs.replies.kept.Goals as goal

pub returns-in_ok-spot-in-Some-clause-there : goal.returns-in_ok-spot-in-Some-clause-there
returns-in_ok-spot-in-Some-clause-there c = c.in_ok-spot-in-Some.ensures.there c.args.lists.now.items

pub returns-in_ok-spot-in-None-clause-there : goal.returns-in_ok-spot-in-None-clause-there
returns-in_ok-spot-in-None-clause-there c = c.in_ok-spot-in-None.ensures.there c.args.copied.now.items
