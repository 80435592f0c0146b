use Rattle.trace_format.proofs.Sound.{spelled_sound}
use Rattle.trace_format.proofs.laws.spelled_sound.Goals as goal

pub returns : goal.returns
returns c = spelled_sound
