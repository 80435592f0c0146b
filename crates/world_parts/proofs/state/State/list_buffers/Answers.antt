use Rattle.std.proofs.Common.{ℕ, List, [], ◌∷◌, ◌++◌, ap, sym, ◌∙◌}
use Rattle.std.specs.List.{flat_map}
use Rattle.std.proofs.lemmas.List.Concat.{flat_map_single}
use Rattle.world_parts.specs.declared.image.BufferEntry.{BufferEntry}
use Rattle.world_parts.specs.Image.{image_of, buffer_entry}
use Rattle.world_parts.specs.World.{World}
use Rattle.world_parts.proofs.Listing.{listed_one, all_listed}
use Rattle.world_parts.proofs.state.State.list_buffers.Goals as goal

abbrev lines : (ℕ × ℕ) × List ℕ → List BufferEntry
lines e = buffer_entry e ∷ []

pub loop-ring-init : goal.loop-ring-init
loop-ring-init c =
    let es = c.into_iter-ring-iterator.result in
    ap (λ xs. xs ++ flat_map lines es) c.requires
    ∙ ap (flat_map lines) (c.into_iter-ring-iterator.ensures.into_iter_gives ∙ c.iter-ring-items.ensures ∙ ap (λ (w : World). w.buffers.entries) c.self.view_is)
    ∙ flat_map_single buffer_entry c.args.self.now.buffers.entries

pub loop-ring-preserved : goal.loop-ring-preserved
loop-ring-preserved c =
    let e : (ℕ × ℕ) × List ℕ = (c.in-Some.field-0-0.now, c.in-Some.buffer.now) in
    let part : BufferEntry = record { ring = e.0.0; index = e.0.1; len = c.len.result } in
    listed_one lines c.loop-ring.ring-iterator c.next.new.self e c.loop-ring.entries.items c.push.new.self.items (part ∷ []) (image_of c.args.self.now).buffers
    c.in-Some.ensures.steps (λ i. record part { len = sym c.len.ensures.value i } ∷ []) c.in_ok-push.ensures.items c.loop-ring.invariant

pub returns : goal.returns
returns c = all_listed lines c.loop-ring.ring-iterator c.loop-ring.entries.items (image_of c.args.self.now).buffers c.in-None.ensures.steps.0 c.loop-ring.invariant
