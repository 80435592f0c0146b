use Rattle.std.proofs.Common.{ap, ◌∙◌}
use Rattle.world_parts.proofs.Sized.{all_sized}
use Rattle.world_parts.specs.Start.{opened, with_items}
use Rattle.world_parts.specs.World.{World}
use Rattle.world_parts.proofs.Starts.{closed_start}
use Rattle.world_parts.proofs.state.State.fill.Goals as goal

pub add_items-requires-clause-count : goal.add_items-requires-clause-count
add_items-requires-clause-count c = rw c.as_slice.ensures c.requires.trace.sizes.items

pub add_items-requires-clause-sizes : goal.add_items-requires-clause-sizes
add_items-requires-clause-sizes c = rw c.as_slice.ensures (all_sized c.args.trace.now c.requires.trace)

pub open-requires-clause-descriptions : goal.open-requires-clause-descriptions
open-requires-clause-descriptions c =
    ap (λ (w : World). w.descriptions) (c.in_ok-add_items.ensures ∙ ap (λ w. with_items w 1 c.as_slice.result.now) c.requires.bare)
    ∙ (closed_start c.as_slice.result.now).descriptions

pub open-requires-clause-descriptors : goal.open-requires-clause-descriptors
open-requires-clause-descriptors c =
    ap (λ (w : World). w.descriptors) (c.in_ok-add_items.ensures ∙ ap (λ w. with_items w 1 c.as_slice.result.now) c.requires.bare)
    ∙ (closed_start c.as_slice.result.now).descriptors

pub register-requires-clause-slots : goal.register-requires-clause-slots
register-requires-clause-slots c =
    ap (λ (w : World). w.slots) (c.in_ok-open.ensures ∙ ap (opened c.args.trace.now) (c.in_ok-add_items.ensures ∙ ap (λ w. with_items w 1 c.as_slice.result.now) c.requires.bare))
    ∙ (closed_start c.as_slice.result.now).slots

pub register-requires-clause-buffers : goal.register-requires-clause-buffers
register-requires-clause-buffers c =
    ap (λ (w : World). w.buffers) (c.in_ok-open.ensures ∙ ap (opened c.args.trace.now) (c.in_ok-add_items.ensures ∙ ap (λ w. with_items w 1 c.as_slice.result.now) c.requires.bare))
    ∙ (closed_start c.as_slice.result.now).buffers
