use Rattle.sweep_laws.proofs.Images.{image_same}
use Rattle.sweep_laws.proofs.laws.within_shows_same.Goals as goal

pub returns : goal.returns
returns c = image_same
