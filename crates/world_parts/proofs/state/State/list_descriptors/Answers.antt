use Rattle.std.proofs.Common.{◌≡◌, ℕ, List, [], ◌∷◌, ◌++◌, ap, sym, ◌∙◌}
use Rattle.std.specs.Ordering.{nat_cmp}
use Rattle.std.specs.List.{flat_map}
use Rattle.sqe_codec.specs.Answers.{each}
use Rattle.finite_maps.specs.Table.{Table, get}
use Rattle.world_parts.specs.declared.image.DescriptorEntry.{DescriptorEntry}
use Rattle.world_parts.specs.Image.{image_of, descriptor_entry}
use Rattle.world_parts.specs.World.{World, Description}
use Rattle.world_parts.proofs.Listing.{listed_one, listed_none, all_listed}
use Rattle.world_parts.proofs.state.State.list_descriptors.Goals as goal

abbrev lines : Table nat_cmp Description → ℕ × ℕ → List DescriptorEntry
lines ds e = each (λ d. descriptor_entry e d ∷ []) (get ds e.1)

pub loop-number-init : goal.loop-number-init
loop-number-init c =
    let f = lines c.args.self.now.descriptions in
    let es = c.into_iter-number-iterator.result in
    ap (λ xs. xs ++ flat_map f es) c.requires
    ∙ ap (flat_map f) (c.into_iter-number-iterator.ensures.into_iter_gives ∙ c.iter-number-items.ensures ∙ ap (λ (w : World). w.descriptors.entries) c.self.view_is)

pub loop-number-preserved-in-Continue-1 : goal.loop-number-preserved-in-Continue-1
loop-number-preserved-in-Continue-1 c =
    let ds = c.args.self.now.descriptions in
    let e : ℕ × ℕ = (c.in-Some.field-0-0.now, c.in-Some.field-0-1.now) in
    let d = c.in-Some-description.opened in
    let same : lines ds e ≡ descriptor_entry e d ∷ [] = ap (each (λ d. descriptor_entry e d ∷ [])) (sym c.description.ensures ∙ c.in-Some-description.is) in
    listed_one (lines ds) c.loop-number.number-iterator c.next.new.self e c.loop-number.entries.items c.push.new.self.items (descriptor_entry e d ∷ []) (image_of c.args.self.now).descriptors
    c.in-Some.ensures.steps same c.in_ok-push.ensures.items c.loop-number.invariant

pub loop-number-preserved : goal.loop-number-preserved
loop-number-preserved c =
    let ds = c.args.self.now.descriptions in
    let e : ℕ × ℕ = (c.in-Some.field-0-0.now, c.in-Some.field-0-1.now) in
    listed_none (lines ds) c.loop-number.number-iterator c.next.new.self e c.loop-number.entries.items (image_of c.args.self.now).descriptors
    c.in-Some.ensures.steps (ap (each (λ d. descriptor_entry e d ∷ [])) (sym c.description.ensures ∙ c.in_default.is)) c.loop-number.invariant

pub returns : goal.returns
returns c = all_listed (lines c.args.self.now.descriptions) c.loop-number.number-iterator c.loop-number.entries.items (image_of c.args.self.now).descriptors c.in-None.ensures.steps.0 c.loop-number.invariant
