use Rattle.foot_waits.proofs.descriptors.Group.meets.Goals as goal

pub returns-else-used : goal.returns-else-used
returns-else-used c = rw (← c.self.view_is, c.if-used.false) c.writes_item.ensures
