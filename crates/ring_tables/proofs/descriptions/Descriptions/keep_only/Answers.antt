use Rattle.finite_maps.proofs.Sifting.{seen-only}
use Rattle.ring_tables.proofs.descriptions.Descriptions.keep_only.Goals as goal

pub returns : goal.returns
returns c = seen-only c.self.inside.entries c.keep_only.new.map c.args.self.now c.args.numbers.now c.self.view_is c.keep_only.ensures
