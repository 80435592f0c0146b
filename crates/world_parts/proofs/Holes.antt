-- What parts leave of a world, and what there is again once they are put back.
use Rattle.std.specs.Prelude.{◌≡◌, ℕ, Bool, true, false, cond, not, ◌&&◌, ◌||◌, ◌-◌, T, List, [], ◌∷◌, ◌++◌, replicate, refl}
use Rattle.std.specs.List.{list_all}
use mathlib.Core.Path.{sym, subst, ap, ◌∙◌}
use mathlib.Core.Logic.{inl, inr}
use native.Mathlib.Omega.{arith}
use Rattle.std.proofs.lemmas.List.{length-replicate}
use Rattle.world_parts.specs.World.{World, kind, name, opened, Change, apply, apply_all}
use Rattle.world_parts.specs.Items.{Atom, description_at, byte_at, name_at, buffer_byte, Value, value, Item, file_bytes, buffer_bytes, member_of, Use, Footprint, writes_atom, collide}
use Rattle.world_parts.specs.Cutting.{zeros, zeros_in, holed, holed_by, Shows, IsPartOf, PutsTo}
use Rattle.world_parts.proofs.Collision.{decided, left, right, first_unwritten, writes-has}
use Rattle.world_parts.proofs.Changes.{rewriting-kind}
use Rattle.extent_bytes.specs.Bytes.{zeroed}
use Rattle.world_parts.proofs.ChangesOfFiles.{emptied, zero_bytes-value, buffered, write_buffer-value}
use Rattle.world_parts.proofs.Values.{atoms_make_the_world}

-- What a part that writes an item leaves of each atom.
abbrev left_of : Item → (a : Atom) → Value a → Value a
left_of (file_bytes i low high) = emptied i low high
left_of (buffer_bytes r b low high) = buffered r b low (replicate (high - low) 0)
left_of _ = λ a v. v

item_leaves : (x : Item) (s : World) (a : Atom) → value (apply_all (zeros_in x) s) a ≡ left_of x a (value s a)
item_leaves (file_bytes i low high) s a = zero_bytes-value s i low high a
item_leaves (buffer_bytes r b low high) s a = write_buffer-value s r b low (replicate (high - low) 0) a
item_leaves _ s a = refl

-- What is no member of an item is left as it is.
spared : (x : Item) (a : Atom) (v : Value a) → T (not (member_of x a)) → left_of x a v ≡ v
spared (file_bytes i low high) (byte_at j p) v n = grind arith
spared (buffer_bytes r b low high) (buffer_byte q c p) v n = grind (arith, length-replicate {A = ℕ} (high - low) 0)
spared _ _ v n = refl

pub apply_all-append : (cs ds : List Change) (s : World) → apply_all (cs ++ ds) s ≡ apply_all ds (apply_all cs s)
apply_all-append [] ds s = refl
apply_all-append (c ∷ cs) ds s = apply_all-append cs ds (apply c s)

-- A world of which a use has been cut out.
abbrev pub after_use : Use → World → World
after_use u s = apply_all (cond u.written (zeros_in u.item) []) s

pub holed-first : (u : Use) (f : Footprint) (s : World) → holed (u ∷ f) s ≡ holed f (after_use u s)
holed-first u f s = apply_all-append (cond u.written (zeros_in u.item) []) (zeros f) s

abbrev left_by : Use → (a : Atom) → Value a → Value a
left_by u a v = cond u.written (left_of u.item a v) v

use_leaves : (u : Use) (s : World) (a : Atom) → value (after_use u s) a ≡ left_by u a (value s a)
use_leaves u s a = elim u.written as (λ b. value (apply_all (cond b (zeros_in u.item) []) s) a ≡ cond b (left_of u.item a (value s a)) (value s a)) [ true ↦ item_leaves u.item s a | false ↦ refl ]

use_spares : (u : Use) (a : Atom) (v : Value a) → T (not (u.written && member_of u.item a)) → left_by u a v ≡ v
use_spares u a v n = elim u.written as (λ b. T (not (b && member_of u.item a)) → cond b (left_of u.item a v) v ≡ v) [ true ↦ spared u.item a v | false ↦ λ k. refl ] n

neither : (a b : Bool) → T (not (a || b)) → T (not a) × T (not b)
neither a b h = grind arith

-- What a part doesn't write is there as before.
pub holed-left : (f : Footprint) (s : World) (a : Atom) → T (not (writes_atom f a)) → value (holed f s) a ≡ value s a
holed-left [] s a n = refl
holed-left (u ∷ f) s a n = grind (arith, holed-first u f s, holed-left f (after_use u s) a, use_leaves u s a, use_spares u a (value s a))

-- What is left of an atom is told by what it was.
pub holed-alike : (f : Footprint) (s u : World) (a : Atom) → value s a ≡ value u a → value (holed f s) a ≡ value (holed f u) a
holed-alike [] s u a e = e
holed-alike (x ∷ f) s u a e =
    grind (arith, holed-first x f s, holed-first x f u, holed-alike f (after_use x s) (after_use x u) a, use_leaves x s a, use_leaves x u a)

-- The same of several parts.
pub holed_by-left : (test : Footprint → Bool) (a : Atom) → ((g : Footprint) → T (test g) → T (not (writes_atom g a))) → (gs : List Footprint) → T (list_all test gs) → (s : World) → value (holed_by gs s) a ≡ value s a
holed_by-left test a spares [] h s = refl
holed_by-left test a spares (g ∷ gs) h s = holed_by-left test a spares gs (right (test g) _ h) (holed g s) ∙ holed-left g s a (spares g (left (test g) _ h))

pub holed_by-alike : (gs : List Footprint) (s u : World) (a : Atom) → value s a ≡ value u a → value (holed_by gs s) a ≡ value (holed_by gs u) a
holed_by-alike [] s u a e = e
holed_by-alike (g ∷ gs) s u a e = holed_by-alike gs (holed g s) (holed g u) a (holed-alike g s u a e)

-- Parts leave all but bytes.
abbrev is_byte : Atom → Bool
is_byte (byte_at i p) = true
is_byte (buffer_byte r b p) = true
is_byte _ = false

item_spares : (x : Item) (a : Atom) (v : Value a) → T (not (is_byte a)) → left_of x a v ≡ v
item_spares (file_bytes i low high) (byte_at j p) v n = absurd n
item_spares (buffer_bytes r b low high) (buffer_byte q c p) v n = absurd n
item_spares _ _ v n = refl

pub holed-spares : (f : Footprint) (s : World) (a : Atom) → T (not (is_byte a)) → value (holed f s) a ≡ value s a
holed-spares [] s a n = refl
holed-spares (u ∷ f) s a n =
    ap (λ w. value w a) (holed-first u f s) ∙ holed-spares f (after_use u s) a n ∙ use_leaves u s a
    ∙ elim u.written as (λ b. cond b (left_of u.item a (value s a)) (value s a) ≡ value s a) [ true ↦ item_spares u.item a (value s a) n | false ↦ refl ]

item_kind : (x : Item) (s : World) (i : ℕ) → kind (apply_all (zeros_in x) s) i ≡ kind s i
item_kind (file_bytes j low high) s i = rewriting-kind (λ bs. zeroed bs low high) s j i
item_kind _ s i = refl

pub holed-kind : (f : Footprint) (s : World) (i : ℕ) → kind (holed f s) i ≡ kind s i
holed-kind [] s i = refl
holed-kind (u ∷ f) s i = grind (arith, holed-first u f s, holed-kind f (after_use u s) i, item_kind u.item s i)

-- A part that is cut while others are out is a part of the world as it was.
pub part_of_whole : (f : Footprint) (gs : List Footprint) (s part : World) → T (list_all (λ g. not (collide g f)) gs) → IsPartOf (holed_by gs s) f part → IsPartOf s f part
part_of_whole f gs s part h is = record {
  agrees = record { same = λ a m. sym (holed_by-left (λ g. not (collide g f)) a (λ g k. first_unwritten g f a k m) gs h s) ∙ is.agrees.same a m };
  nodes = λ i. subst (Shows (kind part i)) (kinds gs s i) (is.nodes i);
  descriptions = λ d. subst (Shows (opened part d)) (values gs s (description_at d) tt) (is.descriptions d);
  names = λ d n. subst (Shows (name part d n)) (values gs s (name_at d n) tt) (is.names d n);
}
  where
    kinds : (fs : List Footprint) (u : World) (i : ℕ) → kind (holed_by fs u) i ≡ kind u i
    kinds [] u i = refl
    kinds (g ∷ fs) u i = kinds fs (holed g u) i ∙ holed-kind g u i

    values : (fs : List Footprint) (u : World) (a : Atom) → T (not (is_byte a)) → value (holed_by fs u) a ≡ value u a
    values [] u a n = refl
    values (g ∷ fs) u a n = values fs (holed g u) a n ∙ holed-spares g u a n

-- A part is put back into a world in one way.
pub same_put : (f : Footprint) (before part u v : World) → PutsTo f before part u → PutsTo f before part v → u ≡ v
same_put f before part u v p q = atoms_make_the_world u v (λ a. elim (decided (writes_atom f a)) [
  | inl h ↦ p.given a h ∙ sym (q.given a h)
  | inr n ↦ p.kept a n ∙ sym (q.kept a n)
])

-- What is cut out and put back is there again.
pub cut_then_put : (s part after : World) (f : Footprint) → IsPartOf s f part → PutsTo f (holed f s) part after → after ≡ s
cut_then_put s part after f is p = same_put f (holed f s) part after s p (record { given = λ a w. is.agrees.same a (writes-has f a w); kept = λ a n. sym (holed-left f s a n) })
