use Rattle.deal_desk.proofs.Moves.{new_begins}
use Rattle.deal_desk.proofs.desk.Desk.new.Goals as goal

pub new-requires : goal.new-requires
new-requires g c = rw c.of-snapshot.ensures (new_begins g.J.Job.is_value c.args.jobs.items c.requires c.in_ok-slots.slots.items c.in_ok-slots.ensures)
