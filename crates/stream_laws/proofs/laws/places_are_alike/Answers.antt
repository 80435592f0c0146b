use Rattle.stream_laws.proofs.Places.{places_are_alike}
use Rattle.stream_laws.proofs.laws.places_are_alike.Goals as goal

pub returns : goal.returns
returns c = places_are_alike
