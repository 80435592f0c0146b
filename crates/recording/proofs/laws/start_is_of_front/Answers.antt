use Rattle.recording.proofs.Fronts.{start_is_of_front}
use Rattle.recording.proofs.laws.start_is_of_front.Goals as goal

pub returns : goal.returns
returns c = start_is_of_front
