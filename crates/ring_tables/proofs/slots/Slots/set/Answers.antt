use Rattle.std.proofs.Common.{None, Some, ap, sym, ◌∙◌}
use Rattle.finite_maps.specs.Table.{assign, pair_keys}
use Rattle.finite_maps.proofs.Maps.{seen-assign}
use Rattle.ring_tables.proofs.Cells.{held-after, held-alike, held-in}
use Rattle.ring_tables.proofs.slots.Slots.set.Goals as goal

pub returns-in_default-clause-ok : goal.returns-in_default-clause-ok
returns-in_default-clause-ok c =
    seen-assign pair_keys c.self.inside.entries c.remove.new.self c.args.self.now (c.args.ring, c.args.slot) None c.self.view_is c.remove.ensures.updates
    ∙ ap (assign pair_keys.total c.args.self.now (c.args.ring, c.args.slot)) (sym c.in_default.is)

pub returns-clause-ok : goal.returns-clause-ok
returns-clause-ok c =
    seen-assign pair_keys c.self.inside.entries c.insert.new.self c.args.self.now (c.args.ring, c.args.slot) (Some c.in-Some.number) c.self.view_is c.in_ok-insert.ensures.updates
    ∙ ap (assign pair_keys.total c.args.self.now (c.args.ring, c.args.slot)) (sym c.in-Some.is)

pub invariant_of-self : goal.invariant_of-self
invariant_of-self c =
    held-in c.note.new.cells.items (seen-assign pair_keys c.self.inside.entries c.remove.new.self c.args.self.now (c.args.ring, c.args.slot) None c.self.view_is c.remove.ensures.updates)
    (held-after c.args.self.now c.self.inside.cells.items c.note.new.cells.items c.args.ring c.args.slot None (held-in c.self.inside.cells.items (sym c.self.view_is) c.self.invariant) c.note.ensures.other c.note.ensures.own)

pub invariant_of-self-2 : goal.invariant_of-self-2
invariant_of-self-2 c =
    held-in c.note-2.new.cells.items (seen-assign pair_keys c.self.inside.entries c.insert.new.self c.args.self.now (c.args.ring, c.args.slot) (Some c.in-Some.number) c.self.view_is c.in_ok-insert.ensures.updates)
    (held-after c.args.self.now c.grow.new.cells.items c.note-2.new.cells.items c.args.ring c.args.slot (Some c.in-Some.number)
    (held-alike c.args.self.now c.self.inside.cells.items c.grow.new.cells.items c.grow.ensures (held-in c.self.inside.cells.items (sym c.self.view_is) c.self.invariant)) c.note-2.ensures.other c.note-2.ensures.own)
