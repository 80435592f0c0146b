use Rattle.std.proofs.Common.{None}
use Rattle.finite_maps.proofs.Indexed.{seen-assign}
use Rattle.ring_tables.proofs.descriptions.Descriptions.remove.Goals as goal

pub returns : goal.returns
returns c = seen-assign c.self.inside.entries c.swap_remove.new.self c.args.self.now c.args.number None c.self.view_is c.swap_remove.ensures.updates
