-- What agreement on an access set gives for its parts, and for the file that a number stands for.
use native.Mathlib.Omega.{arith}
use Rattle.std.proofs.lemmas.List.Folds.{list_any-append}
use Rattle.std.specs.Prelude.{◌≡◌, ℕ, Bool, true, false, cond, ltb, T, List, [], ◌∷◌, ◌++◌, map, length, Option, Some, None, refl}
use Rattle.std.specs.List.{list_any}
use Rattle.std.specs.Option.{option_map, option_and_then}
use mathlib.Core.Path.{sym, subst, ap, ◌∙◌}
use lib.Dec.{eqb_refl}
use Rattle.recording.specs.declared.recording.Recording.{Recording}
use Rattle.entry_checks.specs.Operation.{File, in_slot, at_descriptor}
use Rattle.world_parts.specs.World.{World, slot, descriptor}
use Rattle.op_meaning.specs.Site.{in_ring}
use Rattle.op_meaning.specs.Meaning.{slot_count, held, Handle, handle, handle_of}
use Rattle.sqe_codec.specs.Answers.{each}
use Rattle.world_parts.specs.Items.{Atom, slot_at, descriptor_at, description_at, value, one, member_of, Use, reads, Footprint, has_atom, Agree}
use Rattle.foot_print.specs.Footprint.{as_reads, held_item, file_reads, file_seen, of_file, content_of}
use Rattle.world_parts.proofs.Collision.{both, either_left, either_right, same_atom_refl}

pub in_left : {A : Type 0} (p : A → Bool) (xs ys : List A) → T (list_any p xs) → T (list_any p (xs ++ ys))
in_left p xs ys h = rw list_any-append (either_left _ _ h)

pub in_right : {A : Type 0} (p : A → Bool) (xs ys : List A) → T (list_any p ys) → T (list_any p (xs ++ ys))
in_right p xs ys h = rw list_any-append (either_right (list_any p xs) _ h)

pub agree_left : (s u : World) (f g : Footprint) → Agree (f ++ g) s u → Agree f s u
agree_left s u f g h = record { same = λ a m. h.same a (in_left _ f g m) }

pub agree_right : (s u : World) (f g : Footprint) → Agree (f ++ g) s u → Agree g s u
agree_right s u f g h = record { same = λ a m. h.same a (in_right _ f g m) }

pub agree_tail : (s u : World) (x : Use) (f : Footprint) → Agree (x ∷ f) s u → Agree f s u
agree_tail s u x f h = record { same = λ a m. h.same a (either_right (member_of x.item a) _ m) }

pub has_atom-as_reads : (f : Footprint) (a : Atom) → T (has_atom f a) → T (has_atom (as_reads f) a)
has_atom-as_reads [] a h = h
has_atom-as_reads (x ∷ f) a h = grind (arith, has_atom-as_reads f a)

pub agree_taken : (s u : World) (b : Bool) (f : Footprint) → Agree (cond b f (as_reads f)) s u → Agree f s u
agree_taken s u true f h = h
agree_taken s u false f h = record { same = λ a m. h.same a (has_atom-as_reads f a m) }

pub agree_head : (s u : World) (a : Atom) (w : Bool) (f : Footprint) → Agree (record { item = one a; written = w } ∷ f) s u → value s a ≡ value u a
agree_head s u a w f h = h.same a (either_left _ _ (same_atom_refl a))

-- The open file description that a number stands for, and its handle, are the same.
pub held_same : (t : Recording) (s u : World) (r : ℕ) (f : File) → Agree (map reads (held_item (in_ring t r) f)) s u → held (in_ring t r) u f ≡ held (in_ring t r) s f
held_same t s u r (in_slot n) h =
    elim (ltb n (slot_count t r)) as (λ c. Agree (map reads (cond c (one (slot_at r n) ∷ []) [])) s u → cond c (slot u r n) None ≡ cond c (slot s r n) None) [
      | true ↦ λ k. sym (k.same (slot_at r n) (either_left _ _ (both _ _ (eqb_refl r) (eqb_refl n))))
      | false ↦ λ k. refl
    ] h
held_same t s u r (at_descriptor n) h =
    elim (ltb n (length t.descriptors)) as (λ c. Agree (map reads (cond c (one (descriptor_at n) ∷ []) [])) s u → cond c (descriptor u n) None ≡ cond c (descriptor s n) None) [
      | true ↦ λ k. sym (k.same (descriptor_at n) (either_left _ _ (eqb_refl n)))
      | false ↦ λ k. refl
    ] h

-- Where two worlds agree on what leads to an open file, it is the same.
pub handle_same : (t : Recording) (s u : World) (r : ℕ) (f : File) → Agree (file_seen (in_ring t r) s f) s u → handle (in_ring t r) u f ≡ handle (in_ring t r) s f
handle_same t s u r f a =
    ap (λ d. option_and_then (handle_of u) d) (held_same t s u r f (agree_left s u _ _ a)) ∙ at_description (held (in_ring t r) s f) (agree_right s u (file_reads (in_ring t r) f) _ a)
  where
    at_description : (d : Option ℕ) → Agree (each (λ n. reads (one (description_at n)) ∷ []) d) s u → option_and_then (handle_of u) d ≡ option_and_then (handle_of s) d
    at_description None k = refl
    at_description (Some d) k = ap (λ o. option_map (λ x. record { description = d; opened = x }) o) (sym (agree_head s u (description_at d) false _ k))

-- What two worlds agree on of the file.
pub agree_on_content : (s u : World) (c : ℕ → Handle → Footprint) (x : Option Handle) → Agree (content_of c x) s u → (h : Handle) → x ≡ Some h → Agree (of_file c h) s u
agree_on_content s u c x a h e = subst (λ y. Agree (content_of c y) s u) e a
