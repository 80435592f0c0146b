use Rattle.interleaving.proofs.Dependencies.{dependencies_suffice_lem}
use Rattle.interleaving.proofs.dependencies_suffice.Goals as goal

pub returns : goal.returns
returns g c = λ trace. dependencies_suffice_lem (g.S.Footprinted.system trace) (g.S.Footprinted.cover trace)
