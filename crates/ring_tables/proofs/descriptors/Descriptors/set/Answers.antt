use Rattle.std.proofs.Common.{None, Some, ap, sym, ◌∙◌}
use Rattle.finite_maps.specs.Table.{assign, number_keys}
use Rattle.finite_maps.proofs.Maps.{seen-assign}
use Rattle.ring_tables.proofs.Fronts.{taken-alike, taken-in, taken-less, taken-more}
use Rattle.ring_tables.proofs.descriptors.Descriptors.set.Goals as goal

pub returns-in_default-clause-ok : goal.returns-in_default-clause-ok
returns-in_default-clause-ok c =
    seen-assign number_keys c.self.inside.entries c.remove.new.self c.args.self.now c.args.number None c.self.view_is c.remove.ensures.updates
    ∙ ap (assign number_keys.total c.args.self.now c.args.number) (sym c.in_default.is)

pub returns-clause-ok : goal.returns-clause-ok
returns-clause-ok c =
    seen-assign number_keys c.self.inside.entries c.insert.new.self c.args.self.now c.args.number (Some c.in-Some.held) c.self.view_is c.in_ok-insert.ensures.updates
    ∙ ap (assign number_keys.total c.args.self.now c.args.number) (sym c.in-Some.is)

pub invariant_of-self : goal.invariant_of-self
invariant_of-self c =
    taken-in c.lower.new.fronts.items (seen-assign number_keys c.self.inside.entries c.remove.new.self c.args.self.now c.args.number None c.self.view_is c.remove.ensures.updates)
    (taken-less c.args.self.now c.self.inside.fronts.items c.lower.new.fronts.items c.args.number (taken-in c.self.inside.fronts.items (sym c.self.view_is) c.self.invariant) c.lower.ensures.less c.lower.ensures.there)

pub raise-requires : goal.raise-requires
raise-requires c =
    taken-in c.grow.new.fronts.items (seen-assign number_keys c.self.inside.entries c.insert.new.self c.args.self.now c.args.number (Some c.in-Some.held) c.self.view_is c.in_ok-insert.ensures.updates)
    (taken-more c.args.self.now c.grow.new.fronts.items c.args.number c.in-Some.held
    (taken-alike c.args.self.now c.self.inside.fronts.items c.grow.new.fronts.items c.grow.ensures (taken-in c.self.inside.fronts.items (sym c.self.view_is) c.self.invariant)))
