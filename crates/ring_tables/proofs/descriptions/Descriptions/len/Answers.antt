use Rattle.std.proofs.Common.{◌∙◌}
use Rattle.finite_maps.proofs.Indexed.{count-of}
use Rattle.ring_tables.proofs.descriptions.Descriptions.len.Goals as goal

pub returns : goal.returns
returns c = c.len.ensures.len ∙ count-of c.self.inside.entries c.args.self.now c.len.ensures.unique c.self.view_is
