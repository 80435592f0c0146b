use Rattle.deal_desk.proofs.LawProofs.{counters_tell as law}
use Rattle.deal_desk.proofs.laws.counters_tell.Goals as goal

pub returns : goal.returns
returns g c jobs = law g.J.Job.is_value jobs
