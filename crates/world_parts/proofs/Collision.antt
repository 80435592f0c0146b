-- Two access sets that don't collide share no atom that one of them writes.
use Rattle.std.specs.Prelude.{◌≡◌, ℕ, Bool, true, not, ◌&&◌, ◌||◌, ◌⊎◌, T, List, [], ◌∷◌}
use Rattle.std.specs.List.{list_any}
use Rattle.std.specs.Str.{bytes_eq}
use Rattle.std.proofs.lemmas.Slice.Eq.{bytes_eq-Decides}
use mathlib.Core.Path.{sym, subst}
use native.Mathlib.Omega.{arith}
use Rattle.world_parts.specs.Items.{Atom, same_atom, Item, one, file_bytes, buffer_bytes, all_names, all_bytes_and_sizes, all_positions, all_descriptions, all_descriptors, member_of, share, Use, Footprint, has_atom, writes_atom, collide}

pub both : (a b : Bool) → T a → T b → T (a && b)
both a b p q = grind arith

pub left : (a b : Bool) → T (a && b) → T a
left a b p = grind arith

pub right : (a b : Bool) → T (a && b) → T b
right a b p = grind arith

pub either_left : (a b : Bool) → T a → T (a || b)
either_left a b p = grind arith

pub either_right : (a b : Bool) → T b → T (a || b)
either_right a b p = grind arith

pub not_both : (b : Bool) → T (not b) → T b → ⊥
not_both b h k = grind arith

pub decided : (b : Bool) → T b ⊎ T (not b)
decided b = grind arith

pub true_of : (b : Bool) → T b → b ≡ true
true_of b h = grind arith

pub text_eq : (n m : List ℕ) → T (bytes_eq n m) → n ≡ m
text_eq n m h = (bytes_eq-Decides n m).0 (true_of _ h)

pub same_atom-eq : (a b : Atom) → T (same_atom a b) → a ≡ b
same_atom-eq a b h = grind (arith, text_eq)

-- Each value is of its own item.
pub same_atom_refl : (a : Atom) → T (same_atom a a)
same_atom_refl a = grind (arith, bytes_eq-Decides)

-- Two items that have an atom share it.
pub member-share : (x y : Item) (a : Atom) → T (member_of x a) → T (member_of y a) → T (share x y)
member-share (one b) y a g h = subst (λ c. T (member_of y c)) (sym (same_atom-eq b a g)) h
member-share x (one b) a g h = subst (λ c. T (member_of x c)) (sym (same_atom-eq b a h)) g
member-share (file_bytes i low high) y a g h = grind arith
member-share (buffer_bytes r b low high) y a g h = grind arith
member-share (all_names n) y a g h = grind arith
member-share (all_bytes_and_sizes n) y a g h = grind arith
member-share (all_positions n) y a g h = grind arith
member-share (all_descriptions n) y a g h = grind arith
member-share all_descriptors y a g h = grind arith

-- Where some member passes a test, and whatever passes it passes a second one.
pub any_passes : {A : Type 0} (p q : A → Bool) → ((x : A) → T (p x) → T (q x)) → (xs : List A) → T (list_any p xs) → T (list_any q xs)
any_passes p q f [] h = absurd h
any_passes p q f (x ∷ xs) h = grind (arith, f x, any_passes p q f xs)

-- Access sets that have an atom which one of them writes collide.
pub first_writes-collide : (f g : Footprint) (a : Atom) → T (writes_atom f a) → T (has_atom g a) → T (collide f g)
first_writes-collide f g a h k =
    any_passes _ _ (λ (u : Use) m. any_passes _ (λ (v : Use). (u.written || v.written) && share u.item v.item)
    (λ (v : Use) n. grind (arith, member-share u.item v.item a)) g k) f h

pub second_writes-collide : (f g : Footprint) (a : Atom) → T (has_atom f a) → T (writes_atom g a) → T (collide f g)
second_writes-collide f g a h k =
    any_passes _ _ (λ (u : Use) m. any_passes _ (λ (v : Use). (u.written || v.written) && share u.item v.item)
    (λ (v : Use) n. grind (arith, member-share u.item v.item a)) g k) f h

-- Of two access sets that don't collide, each writes nothing that the other has.
pub first_unwritten : (f g : Footprint) (a : Atom) → T (not (collide f g)) → T (has_atom g a) → T (not (writes_atom f a))
first_unwritten f g a h m = grind (arith, first_writes-collide)

pub second_unwritten : (f g : Footprint) (a : Atom) → T (not (collide f g)) → T (has_atom f a) → T (not (writes_atom g a))
second_unwritten f g a h m = grind (arith, second_writes-collide)

-- What an access set writes, it has.
pub writes-has : (f : Footprint) (a : Atom) → T (writes_atom f a) → T (has_atom f a)
writes-has f a h = any_passes _ _ (λ (u : Use) m. right u.written _ m) f h
