use Rattle.std.proofs.Common.{refl}
use Rattle.trace_format.specs.declared.trace.Description.{Description}
use Rattle.finite_maps.proofs.Indexed.{rewritten_none, rewritten_through}
use Rattle.ring_tables.proofs.descriptions.Descriptions.set_position.Goals as goal

pub returns-in_default : goal.returns-in_default
returns-in_default c =
    rewritten_none c.self.inside.entries c.get_mut.follows.lender-at-none c.args.self.now c.args.number c.self.view_is (λ (d : Description). record d { position = c.args.position }) c.get_mut.follows.holds-at-none c.in_default.ensures.value

pub returns : goal.returns
returns c =
    let moved : Description = record (c.in-Some.description.now) { position = c.args.position } in
    rewritten_through c.self.inside.entries (c.get_mut.follows.lender moved) c.args.self.now c.args.number c.self.view_is c.in-Some.description.now moved (c.get_mut.follows.holds moved) c.in-Some.ensures.value (λ (d : Description). record d { position = c.args.position }) refl
