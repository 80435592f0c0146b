use Rattle.std.proofs.Common.{Some, ap, ◌∙◌}
use Rattle.finite_maps.specs.Table.{number_keys}
use Rattle.finite_maps.proofs.Maps.{seen-assign}
use Rattle.world_parts.specs.Part.{Divided}
use Rattle.world_parts.proofs.Cuts.{world_left}
use Rattle.world_parts.proofs.part.World.take_out.Goals as goal

pub returns : goal.returns
returns c =
    let left = world_left c.args.self.now.world c.deref_mut.result.now c.clear_uses.new.self c.args.footprint c.deref.result.now c.footprint.inside.uses.items (c.deref_mut.ensures.value ∙ ap (λ (d : Divided). d.world) c.self.view_is) c.deref.ensures.value c.footprint.view_is c.in_ok-clear_uses.ensures in
    let gone = seen-assign number_keys c.self.inside.out c.insert.new.self c.args.self.now.out c.args.place (Some c.args.footprint) (ap (λ (d : Divided). d.out) c.self.view_is) c.in_ok-insert.ensures.updates in
    λ i. record { world = left i; out = gone i }
