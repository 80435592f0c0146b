use Rattle.std.proofs.Common.{ap, nat_eq, ◌∙◌}
use Rattle.std.specs.Prelude.{◌||◌, ltb}
use Rattle.std.specs.List.{list_any}
use Rattle.finite_maps.specs.Sifted.{has_value}
use mathlib.Core.Bool.{or_assoc}
use Rattle.world_parts.proofs.state.State.held.Goals as goal

pub returns : goal.returns
returns c d =
    let w = c.args.self.now in
    let below = ltb d c.args.started in
    let in_slots = has_value (λ x. nat_eq x d) w.slots in
    let in_descriptors = has_value (λ x. nat_eq x d) w.descriptors in
    c.in_ok-mark_in_descriptors.ensures d
    ∙ ap (λ b. b || in_descriptors) (c.in_ok-mark_in_slots.ensures d ∙ ap (λ b. b || in_slots) (c.in_ok-mark_below.ensures d ∙ ap (λ ks. list_any (nat_eq d) ks || below) c.new-held.ensures.empty))
    ∙ or_assoc below in_slots in_descriptors
