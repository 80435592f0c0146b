use Rattle.recording.proofs.Fronts.{forgotten_is_of_front}
use Rattle.recording.proofs.laws.forgotten_is_of_front.Goals as goal

pub returns : goal.returns
returns c = forgotten_is_of_front
