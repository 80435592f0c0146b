-- Operations that use no more than the slots or descriptors of file numbers, and the position of what is open there.
use native.Mathlib.Omega.{arith}
use Rattle.std.specs.Prelude.{◌≡◌, ℕ, ℤ, ◌+◌, ◌^◌, Bool, false, cond, leb, ltb, T, List, [], ◌∷◌, map, length, Option, Some, None, Ok, refl}
use Rattle.std.specs.Option.{is_some}
use mathlib.Core.Path.{sym, subst, ap}
use lib.Dec.{eqb_refl}
use Rattle.sqe_codec.specs.declared.errno.Errno.TheVariants.{EBADF, EINVAL}
use Rattle.recording.specs.declared.recording.Recording.{Recording}
use Rattle.sqe_codec.specs.Answers.{◌>>◌, require}
use Rattle.entry_checks.specs.Operation.{nop, fsync, close, sync_file_range, fadvise, given, hold_nothing, hold_copy, seek, File, in_slot, at_descriptor}
use Rattle.world_parts.specs.World.{World, slot, set_slot, set_descriptor}
use Rattle.op_meaning.specs.Site.{in_ring}
use Rattle.op_meaning.specs.Meaning.{done, slot_count, held, Handle, handle, sync_file_range_meaning, fadvise_meaning, put, held_in, sought}
use Rattle.world_parts.specs.Items.{Atom, slot_at, descriptor_at, Item, one, reads, writes, Footprint, has_atom, writes_atom, Agree, Holds}
use Rattle.foot_print.specs.Footprint.{held_item, file_reads, file_item, position_sought}
use Rattle.foot_print.specs.Laws.{Awaits}
use Rattle.world_parts.proofs.Collision.{either_left, true_of, same_atom_refl}
use Rattle.foot_print.proofs.Agreement.{held_same, agree_head}
use Rattle.foot_print.proofs.Accepted.{ok_require, after_require, supports_effect, holds_right}
use Rattle.foot_print.proofs.CoverChanges.{SupportsAll}
use Rattle.foot_print.proofs.CoverOperation.{Owes}

pub nop_owes : (t : Recording) (k r : ℕ) (s : World) → Awaits t k s → Owes t k r nop s
nop_owes t k r s w = record {
  tells = λ u b a d. record { same_meaning = refl; same_uses = λ c. refl };
  supports = λ u v a d e q. supports_effect [] u (done []) e q tt;
}

pub fsync_owes : (t : Recording) (k r : ℕ) (s : World) (f : File) → Awaits t k s → Owes t k r (fsync f) s
fsync_owes t k r s f w = record {
  tells = λ u b a d. record {
    same_meaning = ap (λ x. require (is_some x) EBADF >> Ok (done [])) (held_same t s u r f d);
    same_uses = λ c. refl;
  };
  supports = λ u v a d e q. let m = ok_require (is_some (held (in_ring t r) u f)) EBADF (Ok (done [])) e q in supports_effect (file_reads (in_ring t r) f) u (done []) e m.0 tt;
}

pub sync_file_range_owes : (t : Recording) (k r : ℕ) (s : World) (f : File) (o n flags : ℕ) → Awaits t k s → Owes t k r (sync_file_range f o n flags) s
sync_file_range_owes t k r s f o n flags w = record {
  tells = λ u b a d. record {
    same_meaning = ap (sync_file_range_meaning o n flags) (held_same t s u r f d);
    same_uses = λ c. refl;
  };
  supports = λ u v a d e q.
      let m = ok_require (is_some (held (in_ring t r) u f)) EBADF _ e q in
      let g = ok_require (leb flags 7) EINVAL _ e m.0 in
      let l = ok_require (ltb (o + n) (2 ^ 63)) EINVAL (Ok (done [])) e g.0 in
      supports_effect (file_reads (in_ring t r) f) u (done []) e l.0 tt;
}

pub fadvise_owes : (t : Recording) (k r : ℕ) (s : World) (f : File) (n advice : ℕ) → Awaits t k s → Owes t k r (fadvise f n advice) s
fadvise_owes t k r s f n advice w = record {
  tells = λ u b a d. record {
    same_meaning = ap (fadvise_meaning n advice) (held_same t s u r f d);
    same_uses = λ c. refl;
  };
  supports = λ u v a d e q.
      let m = ok_require (is_some (held (in_ring t r) u f)) EBADF _ e q in
      let l = ok_require (ltb n (2 ^ 63)) EINVAL _ e m.0 in
      let g = ok_require (leb advice 5) EINVAL (Ok (done [])) e l.0 in
      supports_effect (file_reads (in_ring t r) f) u (done []) e g.0 tt;
}

pub given_owes : (t : Recording) (k r : ℕ) (s : World) (q : ℤ) (fails : Bool) → Awaits t k s → Owes t k r (given q fails) s
given_owes t k r s q fails w = record {
  tells = λ u b a d. record { same_meaning = refl; same_uses = λ c. refl };
  supports = λ u v a d e q. supports_effect [] u (done []) e q tt;
}

-- What an access set writes of some items, worlds that agree on it agree on.
read_too : (xs : List Item) (a : Atom) → T (has_atom (map reads xs) a) → T (has_atom (map writes xs) a)
read_too [] a h = h
read_too (x ∷ xs) a h = grind (arith, read_too xs a)

agree_written : (s u : World) (xs : List Item) → Agree (map writes xs) s u → Agree (map reads xs) s u
agree_written s u xs h = record { same = λ a m. h.same a (read_too xs a m) }

-- The slot or descriptor of a number that is written, where it is one.
writes_slot : (t : Recording) (r n : ℕ) → T (ltb n (slot_count t r)) → T (writes_atom (map writes (held_item (in_ring t r) (in_slot n))) (slot_at r n))
writes_slot t r n h = subst (λ b. T (writes_atom (map writes (cond b (one (slot_at r n) ∷ []) [])) (slot_at r n))) (sym (true_of _ h)) (either_left _ _ (same_atom_refl (slot_at r n)))

writes_descriptor : (t : Recording) (r n : ℕ) → T (ltb n (length t.descriptors)) → T (writes_atom (map writes (held_item (in_ring t r) (at_descriptor n))) (descriptor_at n))
writes_descriptor t r n h = subst (λ b. T (writes_atom (map writes (cond b (one (descriptor_at n) ∷ []) [])) (descriptor_at n))) (sym (true_of _ h)) (either_left _ _ (eqb_refl n))

there_first : {A : Type 0} (b : Bool) (x : Option A) → T (is_some (cond b x None)) → T b
there_first b x h = grind arith

pub close_owes : (t : Recording) (k r : ℕ) (s : World) (f : File) → Awaits t k s → Owes t k r (close f) s
close_owes t k r s (at_descriptor n) w = record {
  tells = λ u b a d. record {
    same_meaning = ap (λ x. require (is_some x) EBADF >> Ok (done (set_descriptor n None ∷ []))) (held_same t s u r (at_descriptor n) (agree_written s u (held_item (in_ring t r) (at_descriptor n)) d));
    same_uses = λ c. refl;
  };
  supports = λ u v a d e q.
      let m = ok_require (is_some (held (in_ring t r) u (at_descriptor n))) EBADF (Ok (done (set_descriptor n None ∷ []))) e q in
      supports_effect (map writes (held_item (in_ring t r) (at_descriptor n))) u (done (set_descriptor n None ∷ [])) e m.0 (writes_descriptor t r n (there_first _ _ m.1), tt);
}
close_owes t k r s (in_slot n) w = record {
  tells = λ u b a d. record {
    same_meaning = after_require (ltb n (slot_count t r)) EINVAL _ _ (λ h. ap (λ x. require (is_some x) EBADF >> Ok (done (set_slot r n None ∷ []))) (slot_same u h d));
    same_uses = λ c. refl;
  };
  supports = λ u v a d e q.
      let m = ok_require (ltb n (slot_count t r)) EINVAL _ e q in
      let l = ok_require (is_some (slot u r n)) EBADF _ e m.0 in
      supports_effect (map writes (held_item (in_ring t r) (in_slot n))) u (done (set_slot r n None ∷ [])) e l.0 (writes_slot t r n m.1, tt);
}
  where
    slot_same : (u : World) → T (ltb n (slot_count t r)) → Agree (map writes (held_item (in_ring t r) (in_slot n))) s u → slot u r n ≡ slot s r n
    slot_same u h a = sym (a.same (slot_at r n) (subst (λ b. T (has_atom (map writes (cond b (one (slot_at r n) ∷ []) [])) (slot_at r n))) (sym (true_of _ h)) (either_left _ _ (same_atom_refl (slot_at r n)))))

-- What is put into a slot or a descriptor is supported where that is written.
pub put_supported : (g : Footprint) (u : World) (r : ℕ) (f : File) (d : Option ℕ) → Holds g (writes (file_item r f) ∷ []) → SupportsAll g u (put r f d ∷ [])
put_supported g u r (in_slot n) d h = (h.writes (slot_at r n) (either_left _ _ (same_atom_refl (slot_at r n))), tt)
put_supported g u r (at_descriptor n) d h = (h.writes (descriptor_at n) (either_left _ _ (eqb_refl n)), tt)

pub hold_nothing_owes : (t : Recording) (k r : ℕ) (s : World) (f : File) → Awaits t k s → Owes t k r (hold_nothing f) s
hold_nothing_owes t k r s f w = record {
  tells = λ u b a d. record { same_meaning = refl; same_uses = λ c. refl };
  supports = λ u v a d e q. supports_effect (writes (file_item r f) ∷ []) u (done (put r f None ∷ [])) e q (put_supported (writes (file_item r f) ∷ []) u r f None (record { has = λ x m. m; writes = λ x m. m }));
}

-- What a slot or a descriptor holds is the same where it is read.
held_in_same : (s u : World) (r : ℕ) (f : File) (g : Footprint) → Agree (reads (file_item r f) ∷ g) s u → held_in u r f ≡ held_in s r f
held_in_same s u r (in_slot n) g a = sym (agree_head s u (slot_at r n) false g a)
held_in_same s u r (at_descriptor n) g a = sym (agree_head s u (descriptor_at n) false g a)

pub hold_copy_owes : (t : Recording) (k r : ℕ) (s : World) (f : File) (q : ℕ) (source : File) → Awaits t k s → Owes t k r (hold_copy f q source) s
hold_copy_owes t k r s f q source w = record {
  tells = λ u b a d. record {
    same_meaning = ap (λ x. Ok (done (put r f x ∷ []))) (held_in_same s u q source (writes (file_item r f) ∷ []) d);
    same_uses = λ c. refl;
  };
  supports = λ u v a d e h.
      let held_there = held_in u q source in
      let row = reads (file_item q source) ∷ writes (file_item r f) ∷ [] in
      supports_effect row u (done (put r f held_there ∷ [])) e h (put_supported row u r f held_there (holds_right (reads (file_item q source) ∷ []) (writes (file_item r f) ∷ [])));
}

-- The position of what is open is written.
sought_supported : (u : World) (at : ℕ) (x : Option Handle) → SupportsAll (position_sought x) u (sought at x).changes
sought_supported u at None = tt
sought_supported u at (Some h) = (either_left _ _ (eqb_refl h.description), tt)

pub seek_owes : (t : Recording) (k r : ℕ) (s : World) (f : File) (at : ℕ) → Awaits t k s → Owes t k r (seek f at) s
seek_owes t k r s f at w = record {
  tells = λ u b a d. record { same_meaning = refl; same_uses = λ c. refl };
  supports = λ u v a d e q.
      let there = handle (in_ring t r) u f in
      supports_effect (position_sought there) u (sought at there) e q (sought_supported u at there);
}
