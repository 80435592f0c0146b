use Rattle.world_parts.proofs.Values.{atoms_make_the_world}
use Rattle.world_parts.proofs.laws.values_make_the_world.Goals as goal

pub returns : goal.returns
returns c = atoms_make_the_world
