use Rattle.std.proofs.Common.{refl}
use Rattle.finite_maps.proofs.Indexed.{same_maps_decide}
use Rattle.world_parts.specs.Flags.{same_flag_decides}
use Rattle.world_parts.proofs.imaging.same_chains.Goals as goal

pub returns : goal.returns
returns c = same_maps_decide same_flag_decides c.args.chains.now c.args.others.now _ _ refl refl c.eq.result c.eq.ensures
