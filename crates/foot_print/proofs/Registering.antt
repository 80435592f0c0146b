-- The slots of a new ring: what they get is told by what is read, no others change, and what they get is there.
use Rattle.std.specs.Prelude.{◌≡◌, ℕ, true, false, T, List, [], ◌∷◌, map, Option, Some, None, is_some, refl, IfSome}
use Rattle.std.specs.List.{flat_map}
use Rattle.std.specs.Option.{option_map}
use mathlib.Core.Path.{sym, subst, ap}
use Rattle.recording.specs.declared.recording.Recording.{Recording}
use Rattle.trace_records.specs.declared.record.FullSlot.{FullSlot}
use Rattle.trace_records.specs.declared.record.Holder.{Holder}
use Rattle.trace_records.specs.declared.record.Holder.TheVariants.{Slot, Descriptor, Description}
use Rattle.world_parts.specs.World.{World, IsWorld, Opened, opened, set_slot, apply}
use Rattle.world_parts.specs.Items.{Atom, slot_at, descriptor_at, description_at, reads, Footprint, writes_atom, Agree}
use Rattle.world_parts.specs.Cutting.{is_narrow_use, is_narrow}
use Rattle.op_meaning.specs.Step.{held_by, filled_slot}
use Rattle.foot_print.specs.Footprint.{holder_item, slot_uses}
use Rattle.world_parts.proofs.Collision.{both, either_left, either_right, same_atom_refl}
use Rattle.world_parts.proofs.KeepWorld.{sound, is_world, slotting_sound}
use Rattle.foot_print.proofs.Agreement.{agree_head, agree_tail}
use Rattle.foot_print.proofs.CoverChanges.{SupportsAll}
use Rattle.foot_print.proofs.KeepNames.{Leaves}

-- What a slot gets is the same where it is read.
held_same : (s u : World) (f : Footprint) (h : Holder) → Agree (reads (holder_item h) ∷ f) s u → held_by u h ≡ held_by s h
held_same s u f (Slot ring number) a = sym (agree_head s u (slot_at ring number) false f a)
held_same s u f (Descriptor number) a = sym (agree_head s u (descriptor_at number) false f a)
held_same s u f (Description number) a = ap (λ (o : Option Opened). option_map (λ _. number) o) (sym (agree_head s u (description_at number) false f a))

-- So are the changes.
pub registering_same : (s u : World) (r : ℕ) (slots : List FullSlot) → Agree (flat_map (slot_uses r) slots) s u → map (filled_slot r u) slots ≡ map (filled_slot r s) slots
registering_same s u r [] a = refl
registering_same s u r (x ∷ slots) a =
    λ i. set_slot r x.number (held_same s u _ x.holds a i) ∷ registering_same s u r slots (agree_tail s u _ _ (agree_tail s u _ _ a)) i

-- An access set that writes the slots supports the changes, whatever the slots get.
pub registering_supported : (f : Footprint) (s u : World) (r : ℕ) (slots : List FullSlot) → ((a : Atom) → T (writes_atom (flat_map (slot_uses r) slots) a) → T (writes_atom f a)) → SupportsAll f u (map (filled_slot r s) slots)
registering_supported f s u r [] up = tt
registering_supported f s u r (x ∷ slots) up = (
  up (slot_at r x.number) (either_left _ _ (same_atom_refl (slot_at r x.number))),
  registering_supported f s (apply (filled_slot r s x) u) r slots (λ a m. up a (either_right _ _ m)),
)

-- What a slot gets is a description that is there.
held_there : (s : World) (h : Holder) → IsWorld s → IfSome (held_by s h) (λ d. is_some (opened s d) ≡ true)
held_there s (Slot ring number) w = w.slots_lead ring number
held_there s (Descriptor number) w = w.descriptors_lead number
held_there s (Description number) w = by (opened s number) refl
  where
    by : (o : Option Opened) → opened s number ≡ o → IfSome (option_map (λ _. number) o) (λ d. is_some (opened s d) ≡ true)
    by None e = tt
    by (Some y) e = ap is_some e

-- The changes leave a world.
pub registering_leaves : (t : Recording) (k : ℕ) (s z : World) (r : ℕ) (slots : List FullSlot) → IsWorld s → IsWorld z → opened z ≡ opened s → Leaves t k z (map (filled_slot r s) slots)
registering_leaves t k s z r [] w v same = (v, tt)
registering_leaves t k s z r (x ∷ slots) w v same =
    let x_there = subst (λ (o : ℕ → Option Opened). IfSome (held_by s x.holds) (λ d. is_some (o d) ≡ true)) (sym same) (held_there s x.holds w) in
    let after = apply (filled_slot r s x) z in
    let rest = registering_leaves t k s after r slots w (is_world after v.tree (slotting_sound z r x.number (held_by s x.holds) x_there (sound z v))) same in
    (rest.0, (tt, rest.1))

-- The slots, and what they get, are single items.
holder_narrow : (h : Holder) → T (is_narrow_use (reads (holder_item h)))
holder_narrow (Slot ring number) = tt
holder_narrow (Descriptor number) = tt
holder_narrow (Description number) = tt

pub registering_narrow : (r : ℕ) (slots : List FullSlot) → T (is_narrow (flat_map (slot_uses r) slots))
registering_narrow r [] = tt
registering_narrow r (x ∷ slots) = both _ _ (holder_narrow x.holds) (registering_narrow r slots)
