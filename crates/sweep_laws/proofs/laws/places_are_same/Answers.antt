use Rattle.sweep_laws.proofs.Places.{places_are_same}
use Rattle.sweep_laws.proofs.laws.places_are_same.Goals as goal

pub returns : goal.returns
returns c = places_are_same
