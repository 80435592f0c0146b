use Rattle.replay_report.specs.Names.{errno_name, errno_names}
use Rattle.replay_report.proofs.names.errno_name.Goals as goal

pub returns : goal.returns
unfolding errno_name errno_names
returns c = c.name_at.ensures
