-- Access sets clash in a part by an atom of it that one of them writes.
use Rattle.std.specs.Prelude.{◌≡◌, ℕ, Bool, true, false, ◌&&◌, ◌||◌, List, [], ◌∷◌, filter, ◌⊎◌, refl}
use Rattle.std.specs.List.{list_any}
use Rattle.std.proofs.Common.{arith, sym, ◌∙◌, inl, inr}
use Rattle.std.proofs.lemmas.Bool.{and_from, and_parts, cases_Bool, false_from_ne_true, or_cases, or_left, or_right}
use Rattle.std.proofs.lemmas.Map.Views.{any-filter_same}
use Rattle.world_parts.specs.Items.{Atom, descriptor_at, Item, one, all_descriptors, Use, Footprint, collide, has_atom, member_of, share, writes_atom}
use Rattle.world_parts.proofs.Collision.{first_writes-collide, second_writes-collide, true_of}
use Rattle.world_parts.proofs.Sharing.{atom_of_collide, holds_true, share-sym}
use Rattle.foot_waits.specs.Groups.{meets}
use Rattle.foot_waits.specs.Rule.{Part, descriptors, single, clash_in, descriptor_uses, is_of_descriptors, part_of}

any_kept : {X : Type 0} (test keep : X → Bool) (xs : List X) → list_any test (filter keep xs) ≡ true → list_any test xs ≡ true
any_kept test keep [] h = h
any_kept test keep (x ∷ xs) h = elim (cases_Bool (keep x)) [
  | inl t ↦ elim (or_cases (test x) (list_any test (filter keep xs)) (rw t at h)) [
    | inl here ↦ or_left (test x) (list_any test xs) here
    | inr later ↦ or_right (test x) (list_any test xs) (any_kept test keep xs later)
  ]
  | inr f ↦ or_right (test x) (list_any test xs) (any_kept test keep xs (rw f at h))
]

-- all that has a descriptor is of descriptors
of_member : (x : Item) (n : ℕ) → member_of x (descriptor_at n) ≡ true → is_of_descriptors x ≡ true
of_member (one (descriptor_at m)) n h = refl
of_member all_descriptors n h = refl
of_member _ n h = absurd cc

pub has_descriptor : (f : Footprint) (n : ℕ) → has_atom (descriptor_uses f) (descriptor_at n) ≡ has_atom f (descriptor_at n)
has_descriptor f n = any-filter_same (λ u. member_of u.item (descriptor_at n)) (λ u. is_of_descriptors u.item) true (λ u h. of_member u.item n h) f

pub writes_descriptor : (f : Footprint) (n : ℕ) → writes_atom (descriptor_uses f) (descriptor_at n) ≡ writes_atom f (descriptor_at n)
writes_descriptor f n = any-filter_same (λ u. u.written && member_of u.item (descriptor_at n)) (λ u. is_of_descriptors u.item) true
    (λ u h. let both = and_parts u.written (member_of u.item (descriptor_at n)) h in of_member u.item n both.1) f

pub has_of_kept : (f : Footprint) (a : Atom) → has_atom (descriptor_uses f) a ≡ true → has_atom f a ≡ true
has_of_kept f a h = any_kept (λ u. member_of u.item a) (λ u. is_of_descriptors u.item) f h

pub writes_of_kept : (f : Footprint) (a : Atom) → writes_atom (descriptor_uses f) a ≡ true → writes_atom f a ≡ true
writes_of_kept f a h = any_kept (λ u. u.written && member_of u.item a) (λ u. is_of_descriptors u.item) f h

-- an atom that both have and one of them writes
abbrev pub Clashes : Footprint → Footprint → Atom → Type 0
Clashes f g a = (has_atom f a ≡ true) × (has_atom g a ≡ true) × ((writes_atom f a || writes_atom g a) ≡ true)

pub collides_by : (f g : Footprint) (a : Atom) → Clashes f g a → collide f g ≡ true
collides_by f g a c = elim (or_cases (writes_atom f a) (writes_atom g a) c.2) [
  | inl mine ↦ true_of (collide f g) (first_writes-collide f g a (holds_true (writes_atom f a) mine) (holds_true (has_atom g a) c.1))
  | inr other ↦ true_of (collide f g) (second_writes-collide f g a (holds_true (has_atom f a) c.0) (holds_true (writes_atom g a) other))
]

pub clash_from : (f g : Footprint) (a : Atom) → Clashes f g a → clash_in (part_of a) f g ≡ true
clash_from f g (descriptor_at n) c = collides_by (descriptor_uses f) (descriptor_uses g) (descriptor_at n)
    (has_descriptor f n ∙ c.0, has_descriptor g n ∙ c.1, rw (writes_descriptor f n, writes_descriptor g n) c.2)
clash_from f g a c = and_from (has_atom f a && has_atom g a) (writes_atom f a || writes_atom g a) (and_from (has_atom f a) (has_atom g a) c.0 c.1) c.2

pub collide_atom : (f g : Footprint) → collide f g ≡ true → (a : Atom) × Clashes f g a
collide_atom f g h =
    let n = atom_of_collide f g (holds_true (collide f g) h) in
    let a : Atom = n.0 in (
      a,
      (
        true_of (has_atom f a) n.1,
        true_of (has_atom g a) n.2,
        (elim n.3 [
          | inl w ↦ or_left (writes_atom f a) (writes_atom g a) (true_of (writes_atom f a) w)
          | inr w ↦ or_right (writes_atom f a) (writes_atom g a) (true_of (writes_atom g a) w)
        ]),
      ),
    )

pub clash_collides : (p : Part) (f g : Footprint) → clash_in p f g ≡ true → collide f g ≡ true
clash_collides (single a) f g h =
    let parts = and_parts (has_atom f a && has_atom g a) (writes_atom f a || writes_atom g a) h in
    let both = and_parts (has_atom f a) (has_atom g a) parts.0 in
    collides_by f g a (both.0, both.1, parts.1)
clash_collides descriptors f g h =
    let n = collide_atom (descriptor_uses f) (descriptor_uses g) h in
    let a : Atom = n.0 in
    collides_by f g a (
      has_of_kept f a n.1.0,
      has_of_kept g a n.1.1,
      (elim (or_cases (writes_atom (descriptor_uses f) a) (writes_atom (descriptor_uses g) a) n.1.2) [
        | inl w ↦ or_left (writes_atom f a) (writes_atom g a) (writes_of_kept f a w)
        | inr w ↦ or_right (writes_atom f a) (writes_atom g a) (writes_of_kept g a w)
      ]),
    )

alone : (b : Bool) → (b || false) ≡ true → b ≡ true
alone b h = grind arith

-- a use meets an access set by an atom of both that one of both writes
meets_is : (u : Use) (f : Footprint) → meets u f ≡ list_any (λ v. (u.written || v.written) && share u.item v.item) f
meets_is u [] = grind arith
meets_is u (v ∷ f) = let same = share-sym v.item u.item in let rest = meets_is u f in grind (arith, same, rest)

pub meet_atom : (u : Use) (f : Footprint) → meets u f ≡ true → (a : Atom) × (member_of u.item a ≡ true) × (has_atom f a ≡ true) × ((u.written ≡ true) ⊎ (writes_atom f a ≡ true))
meet_atom u f m =
    let n = collide_atom (u ∷ []) f (or_left (list_any (λ v. (u.written || v.written) && share u.item v.item) f) false (sym (meets_is u f) ∙ m)) in
    let a : Atom = n.0 in (
      a,
      alone (member_of u.item a) n.1.0,
      n.1.1,
      (elim (or_cases (writes_atom (u ∷ []) a) (writes_atom f a) n.1.2) [
        | inl mine ↦ inl ((and_parts u.written (member_of u.item a) (alone (u.written && member_of u.item a) mine)).0)
        | inr other ↦ inr other
      ]),
    )

pub meet_from : (u : Use) (f : Footprint) (a : Atom) → member_of u.item a ≡ true → has_atom f a ≡ true → (u.written ≡ true) ⊎ (writes_atom f a ≡ true) → meets u f ≡ true
meet_from u f a mine has w =
    let c = collides_by (u ∷ []) f a (
      or_left (member_of u.item a) false mine,
      has,
      (elim w [
        | inl wrote ↦ or_left (writes_atom (u ∷ []) a) (writes_atom f a) (or_left (u.written && member_of u.item a) false (and_from u.written (member_of u.item a) wrote mine))
        | inr other ↦ or_right (writes_atom (u ∷ []) a) (writes_atom f a) other
      ]),
    ) in
    meets_is u f ∙ alone (list_any (λ v. (u.written || v.written) && share u.item v.item) f) c

-- of which part the atoms of an item are
pub part_of_member : (x : Item) (a : Atom) → is_of_descriptors x ≡ true → member_of x a ≡ true → part_of a ≡ descriptors
part_of_member (one (descriptor_at m)) (descriptor_at n) d h = refl
part_of_member (one (descriptor_at m)) _ d h = absurd cc
part_of_member all_descriptors (descriptor_at n) d h = refl
part_of_member all_descriptors _ d h = absurd cc
part_of_member _ a d h = absurd cc

pub other_atom : (x : Item) (a : Atom) → is_of_descriptors x ≡ false → member_of x a ≡ true → is_of_descriptors (one a) ≡ false
other_atom x (descriptor_at n) d h = sym (of_member x n h) ∙ d
other_atom x _ d h = refl

pub other_part : (a : Atom) → is_of_descriptors (one a) ≡ false → part_of a ≡ single a
other_part (descriptor_at n) d = absurd cc
other_part _ d = refl

pub no_member : (x : Item) (a : Atom) → is_of_descriptors x ≡ true → is_of_descriptors (one a) ≡ false → member_of x a ≡ false
no_member x a d o = false_from_ne_true (member_of x a) (λ h. of_both a o (part_of_member x a d h))
  where
    of_both : (a : Atom) → is_of_descriptors (one a) ≡ false → part_of a ≡ descriptors → ⊥
    of_both (descriptor_at n) o p = cc
    of_both _ o p = cc

-- what an access set uses of the descriptors has their atoms
pub has_kept : (f : Footprint) (a : Atom) → part_of a ≡ descriptors → has_atom (descriptor_uses f) a ≡ has_atom f a
has_kept f (descriptor_at n) p = has_descriptor f n
has_kept f _ p = absurd cc

pub writes_kept : (f : Footprint) (a : Atom) → part_of a ≡ descriptors → writes_atom (descriptor_uses f) a ≡ writes_atom f a
writes_kept f (descriptor_at n) p = writes_descriptor f n
writes_kept f _ p = absurd cc
