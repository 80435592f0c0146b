-- What an operation looks up tells its items, and stands in its row.
use native.Mathlib.Omega.{arith}
use Rattle.std.specs.Prelude.{◌≡◌, ℕ, Bool, true, false, cond, length, T, List, [], ◌∷◌, ◌++◌, Option, Some, None, refl, is_ok, is_none}
use Rattle.std.specs.List.{find, range_with_len}
use mathlib.Core.Path.{sym, subst, ap, fun_ext, ◌∙◌}
use Rattle.recording.specs.declared.recording.Recording.{Recording}
use Rattle.sqe_codec.specs.Answers.{each}
use Rattle.entry_checks.specs.Operation.{Operation}
use Rattle.world_parts.specs.World.{World, descriptor}
use Rattle.op_meaning.specs.Site.{in_ring, sited}
use Rattle.op_meaning.specs.Meaning.{Found, found, meaning, lowest_free, shape}
use Rattle.world_parts.specs.Items.{Atom, descriptor_at, one, all_descriptors, member_of, Use, reads, writes, Footprint, has_atom, Agree}
use Rattle.foot_print.specs.Footprint.{tried, foreseen, uses, as_reads, room_uses, row_in}
use Rattle.op_meaning.specs.Shape.{Shape, moving, opening, look}
use Rattle.foot_print.specs.Reach.{written_by, shape_asked, room_asked, room_at, seen, taken, room_taken}
use Rattle.foot_print.proofs.Agreement.{in_left, in_right, has_atom-as_reads}
use Rattle.foot_print.proofs.Looks.{found_same, looks_same}
use Rattle.foot_print.proofs.Holding.{Over, always, over_self, over_first}

-- A room at the lowest free descriptor.
abbrev IsLowest : Option (Option ℕ) → Type 0
IsLowest (Some None) = Unit {0}
IsLowest _ = ⊥

module _ (t : Recording) (r : ℕ) (s u : World) where
  pub seen_same : (o : Operation) → Agree (seen (in_ring t r) s o) s u → seen (in_ring t r) u o ≡ seen (in_ring t r) s o
  seen_same o = looks_same t r s u (look (shape o))

  -- What an operation uses as accepted is told by what it finds.
  foreseen_same : (k : ℕ) (x : Shape) (z : Found) → uses (sited t k r) u foreseen x z ≡ uses (sited t k r) s foreseen x z
  foreseen_same k (moving false f o n x) z = refl
  foreseen_same k (moving true f o n x) z = refl
  foreseen_same k _ z = refl

  pub taken_same : (k : ℕ) (o : Operation) → Agree (seen (in_ring t r) s o) s u → taken (sited t k r) u o ≡ taken (sited t k r) s o
  taken_same k o a =
      let told : uses (sited t k r) u foreseen (shape o) (found (in_ring t r) u (look (shape o))) ≡ uses (sited t k r) s foreseen (shape o) (found (in_ring t r) s (look (shape o)))
      = ap (uses (sited t k r) u foreseen (shape o)) (found_same t r s u (look (shape o)) a) ∙ foreseen_same k (shape o) (found (in_ring t r) s (look (shape o))) in
      λ i. seen_same o a i ++ told i

  lowest_same : ((n : ℕ) → descriptor s n ≡ descriptor u n) → lowest_free t u ≡ lowest_free t s
  lowest_same h = ap (λ (d : ℕ → Option ℕ). find (λ n. is_none (d n)) (range_with_len 0 (length t.descriptors))) (sym (fun_ext h))

  room_uses_same : (asked : Option ℕ) → ((n : ℕ) → descriptor s n ≡ descriptor u n) → room_uses (in_ring t r) u asked ≡ room_uses (in_ring t r) s asked
  room_uses_same None h = ap (λ x. reads all_descriptors ∷ each (λ n. writes (one (descriptor_at n)) ∷ []) x) (lowest_same h)
  room_uses_same (Some n) h = refl

  -- The room is told by what an earlier may-access set doesn't write, and by the row.
  room_at_same : (earlier : List Footprint) (asked : Option ℕ) → (written_by earlier all_descriptors ≡ false → (n : ℕ) → descriptor s n ≡ descriptor u n) → room_at (in_ring t r) u (written_by earlier) asked ≡ room_at (in_ring t r) s (written_by earlier) asked
  room_at_same earlier (Some n) h = refl
  room_at_same earlier None h = let same = λ (e : written_by earlier all_descriptors ≡ false). room_uses_same None (h e) in grind (arith, same)

  pub room_same : (earlier : List Footprint) (o : Operation) → (written_by earlier all_descriptors ≡ false → (n : ℕ) → descriptor s n ≡ descriptor u n) → room_taken (in_ring t r) u earlier o ≡ room_taken (in_ring t r) s earlier o
  room_same earlier o h = grind (arith, room_at_same)

module _ (t : Recording) (k r : ℕ) (s : World) where
  in_uses : (b : Bool) (f : Footprint) (a : Atom) → T (has_atom f a) → T (has_atom (cond b f (as_reads f)) a)
  in_uses b f a h = grind (arith, has_atom-as_reads f a)

  pub seen_in_row : (o : Operation) (a : Atom) → T (has_atom (seen (in_ring t r) s o) a) → T (has_atom (row_in (sited t k r) s o) a)
  seen_in_row o a h = in_left (λ (v : Use). member_of v.item a) (seen (in_ring t r) s o) _ h

  -- All descriptors stand in the row of an operation that asks for the lowest free one.
  uses_ask : (b : Bool) (x : Shape) (z : Found) → IsLowest (shape_asked x) → Over always (uses (sited t k r) s (tried b) x z) (room_uses (in_ring t r) s None)
  uses_ask b (opening p g None) z e = over_first always _ _ _ (over_first always _ _ _ (over_self always _))
  uses_ask b (opening p g (Some n)) z e = absurd e
  uses_ask b _ z e = absurd e

  descriptors_in_row : (o : Operation) → IsLowest (room_asked o) → (n : ℕ) → T (has_atom (row_in (sited t k r) s o) (descriptor_at n))
  descriptors_in_row o e n = in_right (λ (v : Use). member_of v.item (descriptor_at n)) (seen (in_ring t r) s o) _
      (in_uses (is_ok (meaning (sited t k r) s o)) _ (descriptor_at n) ((uses_ask (is_ok (meaning (sited t k r) s o)) (shape o) (found (in_ring t r) s (look (shape o))) e).has (descriptor_at n) tt tt))

  pub room_told : (u : World) (earlier : List Footprint) (o : Operation) → Agree (row_in (sited t k r) s o) s u → room_taken (in_ring t r) u earlier o ≡ room_taken (in_ring t r) s earlier o
  room_told u earlier o a = at (room_asked o) refl
    where
      at : (x : Option (Option ℕ)) → room_asked o ≡ x → each (room_at (in_ring t r) u (written_by earlier)) x ≡ each (room_at (in_ring t r) s (written_by earlier)) x
      at None e = refl
      at (Some (Some n)) e = refl
      at (Some None) e = room_at_same t r s u earlier None (λ f n. a.same (descriptor_at n) (descriptors_in_row o (subst IsLowest (sym e) tt) n))
