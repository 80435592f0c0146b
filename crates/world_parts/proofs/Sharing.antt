-- Items that share have an atom in common; so fewer or narrower may-access sets write less, and access sets collide exactly by an atom that one of them writes.
use Rattle.std.specs.Prelude.{◌≡◌, ℕ, Bool, true, false, refl, ◌&&◌, ◌||◌, ltb, min, max, T, [], ◌∷◌, ◌⊎◌}
use Rattle.std.specs.List.{list_any}
use native.Mathlib.Omega.{arith}
use Rattle.world_parts.specs.Items.{Atom, byte_at, size_of, names_in, position_of, description_at, descriptor_at, buffer_byte, Item, one, file_bytes, buffer_bytes, all_names, all_bytes_and_sizes, all_positions, all_descriptions, all_descriptors, member_of, share, Use, Footprint, has_atom, writes_atom, collide}
use mathlib.Core.Logic.{inl, inr}
use Rattle.world_parts.proofs.Collision.{member-share, left, right, either_left, either_right, same_atom_refl}

abbrev pub Common : Item → Item → Type 0
Common x y = (a : Atom) × T (member_of x a) × T (member_of y a)

pub below_both : (d n m : ℕ) → T (ltb d (min n m)) → T (ltb d n) × T (ltb d m)
below_both d n m h = grind arith

pub common : (x y : Item) → T (share x y) → Common x y
common (one a) y h = (a, same_atom_refl a, h)
common x (one a) h = (a, h, same_atom_refl a)
common (file_bytes i low high) (file_bytes j from to) h = (byte_at i (max low from), grind arith, grind arith)
common (file_bytes i low high) (all_bytes_and_sizes n) h = (byte_at i low, grind arith, grind arith)
common (file_bytes i low high) _ h = absurd h
common (all_bytes_and_sizes n) (file_bytes i low high) h = (byte_at i low, grind arith, grind arith)
common (all_bytes_and_sizes n) (all_bytes_and_sizes m) h = (size_of 0, grind arith, grind arith)
common (all_bytes_and_sizes n) _ h = absurd h
common (buffer_bytes r b low high) (buffer_bytes q c from to) h = (buffer_byte r b (max low from), grind arith, grind arith)
common (buffer_bytes r b low high) _ h = absurd h
common (all_names n) (all_names m) h = (names_in 0, grind arith, grind arith)
common (all_names n) _ h = absurd h
common (all_positions n) (all_positions m) h = (position_of 0, grind arith, grind arith)
common (all_positions n) _ h = absurd h
common (all_descriptions n) (all_descriptions m) h = (description_at 0, grind arith, grind arith)
common (all_descriptions n) _ h = absurd h
common all_descriptors all_descriptors h = (descriptor_at 0, tt, tt)
common all_descriptors _ h = absurd h

-- Two tests of which each leads to the other give the same.
alike : (a b : Bool) → (T a → T b) → (T b → T a) → a ≡ b
alike true true f g = refl
alike true false f g = absurd (f tt)
alike false true f g = absurd (g tt)
alike false false f g = refl

turned : (x y : Item) → T (share x y) → T (share y x)
turned x y h = let c = common x y h in member-share y x c.0 c.2 c.1

pub share-sym : (x y : Item) → share x y ≡ share y x
share-sym x y = alike _ _ (turned x y) (turned y x)

pub holds_true : (b : Bool) → b ≡ true → T b
holds_true b e = grind arith

abbrev collides : Use → Use → Bool
collides u v = (u.written || v.written) && share u.item v.item

-- Which of two holds, and who writes an atom.
pub one_of : (a b : Bool) → T (a || b) → T a ⊎ T b
one_of a b h = grind arith

writer : (a b m r : Bool) → T (a || b) → T m → T a ⊎ T ((b && m) || r)
writer a b m r h k = grind arith

further : (P : Type 0) (a b : Bool) → P ⊎ T b → P ⊎ T (a || b)
further P a b h = grind arith

written_first : (a m r : Bool) (Q : Type 0) → T a ⊎ Q → T m → T ((a && m) || r) ⊎ Q
written_first a m r Q h k = grind arith

-- An atom that two colliding access sets have and one of them writes.
atom_of_use : (u : Use) (g : Footprint) → T (list_any (collides u) g) → (a : Atom) × T (member_of u.item a) × T (has_atom g a) × (T u.written ⊎ T (writes_atom g a))
atom_of_use u [] h = absurd h
atom_of_use u (v ∷ g) h = elim (one_of (collides u v) _ h) [
  | inl w ↦
      let c = common u.item v.item (right (u.written || v.written) _ w) in (c.0, c.1, either_left _ _ c.2, writer u.written v.written _ _ (left _ _ w) c.2)
  | inr k ↦ let n = atom_of_use u g k in (n.0, n.1, either_right _ _ n.2, further _ _ _ n.3)
]

pub atom_of_collide : (f g : Footprint) → T (collide f g) → (a : Atom) × T (has_atom f a) × T (has_atom g a) × (T (writes_atom f a) ⊎ T (writes_atom g a))
atom_of_collide [] g h = absurd h
atom_of_collide (u ∷ f) g h = elim (one_of (list_any (collides u) g) _ h) [
  | inl w ↦ let n = atom_of_use u g w in (n.0, either_left _ _ n.1, n.2, written_first u.written _ _ _ n.3 n.1)
  | inr k ↦ let n = atom_of_collide f g k in (n.0, either_right _ _ n.1, n.2, (elim n.3 [ inl w ↦ inl (either_right _ _ w) | inr w ↦ inr w ]))
]
