use Rattle.std.proofs.Common.{Some}
use Rattle.finite_maps.proofs.Indexed.{seen-assign}
use Rattle.ring_tables.proofs.descriptions.Descriptions.set.Goals as goal

pub returns-clause-ok : goal.returns-clause-ok
returns-clause-ok c =
    seen-assign c.self.inside.entries c.insert.new.self c.args.self.now c.args.number (Some c.args.description) c.self.view_is c.in_ok-insert.ensures.updates
