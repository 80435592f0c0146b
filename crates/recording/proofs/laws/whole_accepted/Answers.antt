use Rattle.recording.proofs.WholeAccepted.{whole_accepted}
use Rattle.recording.proofs.laws.whole_accepted.Goals as goal

pub returns : goal.returns
returns c = whole_accepted
