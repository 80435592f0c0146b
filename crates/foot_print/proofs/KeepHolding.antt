-- What slots and descriptors hold, and a seek, leave a world.
use Rattle.std.specs.Prelude.{◌≡◌, ℕ, true, [], ◌∷◌, Option, Some, None, Result, Ok, Err, is_some, refl, IfSome}
use mathlib.Core.Path.{subst}
use Rattle.sqe_codec.specs.declared.errno.Errno.{Errno}
use Rattle.recording.specs.declared.recording.Recording.{Recording}
use Rattle.entry_checks.specs.Operation.{hold_nothing, hold_path, hold_copy, hold_other, seek, Path, OpenFlags, File, in_slot, at_descriptor}
use Rattle.file_tree.specs.Walk.{walk}
use Rattle.world_parts.specs.World.{World, IsWorld, opened, set_slot, set_descriptor, make_description, set_position, apply}
use Rattle.op_meaning.specs.Site.{in_ring, sited}
use Rattle.op_meaning.specs.Meaning.{Effect, made_description, Handle, handle, opened_in, put, held_in, held_path, no_file, held_other, sought}
use Rattle.foot_print.specs.Laws.{Awaits}
use Rattle.foot_print.proofs.Accepted.{ok_same}
use Rattle.world_parts.proofs.KeepWorld.{sound, is_world, slotting_sound, holding_sound}
use Rattle.foot_print.proofs.KeepNames.{Leaves, Keeps, of_changes}
use Rattle.foot_print.proofs.KeepContents.{contents_leave}
use Rattle.foot_print.proofs.KeepOpen.{described_leaves, opened_keeps}
use Rattle.foot_print.proofs.KeepStep.{leaves_append}

-- What an accepted operation leaves, by its answer.
of_answer : (t : Recording) (k : ℕ) (s : World) (y x : Effect) → ◌≡◌ {A = Result Effect Errno} (Ok y) (Ok x) → Leaves t k s y.changes → Leaves t k s x.changes
of_answer t k s y x h g = subst (λ (z : Effect). Leaves t k s z.changes) (ok_same y x h) g

-- A slot or a descriptor gets a description that is there, or nothing.
put_leaves : (t : Recording) (k : ℕ) (s : World) (r : ℕ) (f : File) (d : Option ℕ) → IsWorld s → IfSome d (λ n. is_some (opened s n) ≡ true) → Leaves t k s (put r f d ∷ [])
put_leaves t k s r (in_slot n) d w h = (is_world (apply (set_slot r n d) s) w.tree (slotting_sound s r n d h (sound s w)), (tt, tt))
put_leaves t k s r (at_descriptor n) d w h = (is_world (apply (set_descriptor n d) s) w.tree (holding_sound s n d h (sound s w)), (tt, tt))

-- What a slot or a descriptor holds is there.
held_there : (s : World) (r : ℕ) (f : File) → IsWorld s → IfSome (held_in s r f) (λ n. is_some (opened s n) ≡ true)
held_there s r (in_slot n) w = w.slots_lead r n
held_there s r (at_descriptor n) w = w.descriptors_lead n

pub hold_nothing_keeps : (t : Recording) (k r : ℕ) (s : World) (f : File) → IsWorld s → Keeps t k r s (hold_nothing f)
hold_nothing_keeps t k r s f w x h = of_changes t k s (put r f None ∷ []) x h (put_leaves t k s r f None w tt)

pub hold_copy_keeps : (t : Recording) (k r : ℕ) (s : World) (f : File) (q : ℕ) (source : File) → IsWorld s → Keeps t k r s (hold_copy f q source)
hold_copy_keeps t k r s f q source w x h = of_changes t k s (put r f (held_in s q source) ∷ []) x h (put_leaves t k s r f (held_in s q source) w (held_there s q source w))

pub hold_other_keeps : (t : Recording) (k r : ℕ) (s : World) (f : File) → Awaits t k s → Keeps t k r s (hold_other f)
hold_other_keeps t k r s f w x h = of_answer t k s (held_other (sited t k r) f) x h (by f)
  where
    taken : (at : File) → Leaves t k s (make_description (made_description t k) no_file ∷ (Rattle.op_meaning.specs.Meaning.filled r at (made_description t k)).changes)
    taken = described_leaves t k r s no_file w.is_world.tree (sound s w.is_world) w.is_world.root refl (λ e. refl)

    by : (y : File) → Leaves t k s (make_description (made_description t k) no_file ∷ put r y (Some (made_description t k)) ∷ [])
    by (in_slot n) = taken (in_slot n)
    by (at_descriptor n) = taken (at_descriptor n)

pub hold_path_keeps : (t : Recording) (k r : ℕ) (s : World) (f : File) (p : Path) (g : OpenFlags) (at : ℕ) → Awaits t k s → Keeps t k r s (hold_path f p g at)
hold_path_keeps t k r s f p g at w x h = of_answer t k s (held_path (sited t k r) f at (opened_in (sited t k r) g (Ok f) (walk s.nodes p))) x h (by (opened_in (sited t k r) g (Ok f) (walk s.nodes p)) refl)
  where
    by : (m : Result Effect Errno) → opened_in (sited t k r) g (Ok f) (walk s.nodes p) ≡ m → Leaves t k s (held_path (sited t k r) f at m).changes
    by (Ok y) e = leaves_append t k s y.changes _ (opened_keeps t k r s p g f w y e) (λ z v. contents_leave t k z (set_position (made_description t k) at ∷ []) (tt, tt) v)
    by (Err e) q = put_leaves t k s r f None w.is_world tt

pub seek_keeps : (t : Recording) (k r : ℕ) (s : World) (f : File) (at : ℕ) → IsWorld s → Keeps t k r s (seek f at)
seek_keeps t k r s f at w x h = of_answer t k s (sought at (handle (in_ring t r) s f)) x h (by (handle (in_ring t r) s f))
  where
    by : (y : Option Handle) → Leaves t k s (sought at y).changes
    by None = (w, tt)
    by (Some g) = contents_leave t k s (set_position g.description at ∷ []) (tt, tt) w
