use Rattle.std.proofs.Common.{◌≡◌, ℕ, List, [], ◌∷◌, ◌++◌, ap, sym, ◌∙◌}
use Rattle.std.specs.Ordering.{nat_cmp}
use Rattle.std.specs.List.{flat_map}
use Rattle.sqe_codec.specs.Answers.{each}
use Rattle.finite_maps.specs.Table.{Table, get}
use Rattle.world_parts.specs.declared.image.SlotEntry.{SlotEntry}
use Rattle.world_parts.specs.Image.{image_of, slot_entry}
use Rattle.world_parts.specs.World.{World, Description}
use Rattle.world_parts.proofs.Listing.{listed_one, listed_none, all_listed}
use Rattle.world_parts.proofs.state.State.list_slots.Goals as goal

abbrev lines : Table nat_cmp Description → (ℕ × ℕ) × ℕ → List SlotEntry
lines ds e = each (λ d. slot_entry e d ∷ []) (get ds e.1)

pub loop-ring-init : goal.loop-ring-init
loop-ring-init c =
    let f = lines c.args.self.now.descriptions in
    let es = c.into_iter-ring-iterator.result in
    ap (λ xs. xs ++ flat_map f es) c.requires
    ∙ ap (flat_map f) (c.into_iter-ring-iterator.ensures.into_iter_gives ∙ c.iter-ring-items.ensures ∙ ap (λ (w : World). w.slots.entries) c.self.view_is)

pub loop-ring-preserved-in-Continue-1 : goal.loop-ring-preserved-in-Continue-1
loop-ring-preserved-in-Continue-1 c =
    let ds = c.args.self.now.descriptions in
    let e : (ℕ × ℕ) × ℕ = (c.in-Some.field-0-0.now, c.in-Some.field-0-1.now) in
    let d = c.in-Some-description.opened in
    let same : lines ds e ≡ slot_entry e d ∷ [] = ap (each (λ d. slot_entry e d ∷ [])) (sym c.description.ensures ∙ c.in-Some-description.is) in
    listed_one (lines ds) c.loop-ring.ring-iterator c.next.new.self e c.loop-ring.entries.items c.push.new.self.items (slot_entry e d ∷ []) (image_of c.args.self.now).slots
    c.in-Some.ensures.steps same c.in_ok-push.ensures.items c.loop-ring.invariant

pub loop-ring-preserved : goal.loop-ring-preserved
loop-ring-preserved c =
    let ds = c.args.self.now.descriptions in
    let e : (ℕ × ℕ) × ℕ = (c.in-Some.field-0-0.now, c.in-Some.field-0-1.now) in
    listed_none (lines ds) c.loop-ring.ring-iterator c.next.new.self e c.loop-ring.entries.items (image_of c.args.self.now).slots
    c.in-Some.ensures.steps (ap (each (λ d. slot_entry e d ∷ [])) (sym c.description.ensures ∙ c.in_default.is)) c.loop-ring.invariant

pub returns : goal.returns
returns c = all_listed (lines c.args.self.now.descriptions) c.loop-ring.ring-iterator c.loop-ring.entries.items (image_of c.args.self.now).slots c.in-None.ensures.steps.0 c.loop-ring.invariant
