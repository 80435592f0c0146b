use Rattle.std.proofs.Common.{rules}
use Rattle.finite_maps.proofs.Indexed.{same_maps_decide}
use Rattle.ring_tables.proofs.descriptions.Descriptions.same.Goals as goal

pub returns : goal.returns
returns c = same_maps_decide (λ x y. search rules) c.self.inside.entries c.other.inside.entries c.args.self.now c.args.other.now c.self.view_is c.other.view_is c.eq.result c.eq.ensures
