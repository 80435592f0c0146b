use Rattle.foot_print.proofs.Putting.{put_is_step}
use Rattle.foot_print.proofs.laws.put_is_step.Goals as goal

pub returns : goal.returns
returns c = put_is_step
