use Rattle.recording.proofs.Fronts.{next_is_of_front}
use Rattle.recording.proofs.laws.next_is_of_front.Goals as goal

pub returns : goal.returns
returns c = next_is_of_front
