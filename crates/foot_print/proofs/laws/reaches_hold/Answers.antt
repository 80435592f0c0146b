use Rattle.foot_print.proofs.Lawful.{replay_lawful}
use Rattle.foot_print.proofs.Starts.{starts_in_world}
use Rattle.foot_print.proofs.laws.reaches_hold.Goals as goal

pub returns : goal.returns
returns c = λ t s. replay_lawful t (starts_in_world t s)
