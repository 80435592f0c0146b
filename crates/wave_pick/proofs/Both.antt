-- An atom of what two items share is one of both; and access sets share an item exactly where they collide.
use Rattle.std.specs.Prelude.{◌≡◌, ℕ, Bool, true, false, ◌&&◌, ◌||◌, ◌==◌, ltb, min, max, T, [], ◌∷◌, refl, Option, Some, None, is_some, if◌then◌else◌}
use Rattle.std.specs.List.{list_any}
use Rattle.std.specs.Option.{option_or}
use mathlib.Core.Bool.{and_comm, and_self}
use Rattle.std.proofs.Common.{subst, sym, ◌∙◌, arith}
use lib.Dec.{eqb→eq}
use Rattle.std.proofs.lemmas.Bool.Decides.{nat_tests}
use Rattle.world_parts.specs.Items.{Atom, size_of, byte_at, name_at, names_in, position_of, description_at, buffer_byte, Item, one, file_bytes, buffer_bytes, all_names, all_bytes_and_sizes, all_positions, all_descriptions, all_descriptors, within, member_of, share, Use, Footprint, same_atom}
use Rattle.world_parts.proofs.Collision.{left, right, same_atom-eq, true_of}
use Rattle.world_parts.proofs.Sharing.{holds_true}
use Rattle.wave_pick.specs.Holding.{shared_item, shared_by, shared_with, shared_of}
use Rattle.wave_pick.specs.Holders.{SharedIsBoth, SharedWhereColliding}

-- An offset lies in the range that is in two ranges just where it lies in both, and a number is below the lower of two bounds just where it is below both.
within_both : (low high from to p : ℕ) → within (max low from) (min high to) p ≡ (within low high p && within from to p)
within_both low high from to p = grind (arith, nat_tests)

below_both : (d n m : ℕ) → ltb d (min n m) ≡ (ltb d n && ltb d m)
below_both d n m = grind (arith, nat_tests)

within_where : (b : Bool) (low high from to p : ℕ) → (b && within (max low from) (min high to) p) ≡ ((b && within low high p) && (b && within from to p))
within_where true low high from to p = within_both low high from to p
within_where false low high from to p = refl

and_less : (b c : Bool) → (T b → T c) → b ≡ (b && c)
and_less true c h = sym (true_of c (h tt))
and_less false c h = refl

-- An atom is a member of what two items share exactly where it is a member of both.
abbrev InBoth : Item → Item → Atom → Type 0
InBoth x y a = member_of (shared_item x y) a ≡ (member_of x a && member_of y a)

at_one : (b : Atom) (x : Item) (a : Atom) → T (member_of x b) → same_atom b a ≡ (same_atom b a && member_of x a)
at_one b x a s = and_less (same_atom b a) (member_of x a) (λ h. subst (λ c. T (member_of x c)) (same_atom-eq b a h) s)

with_one : (x : Item) (b a : Atom) → T (member_of x b) → same_atom b a ≡ (member_of x a && same_atom b a)
with_one x b a s = at_one b x a s ∙ and_comm (same_atom b a) (member_of x a)

in_bytes : (i low high from to : ℕ) (a : Atom) → InBoth (file_bytes i low high) (file_bytes i from to) a
in_bytes i low high from to (byte_at k p) = within_where (i == k) low high from to p
in_bytes i low high from to _ = refl

in_buffers : (r b low high from to : ℕ) (a : Atom) → InBoth (buffer_bytes r b low high) (buffer_bytes r b from to) a
in_buffers r b low high from to (buffer_byte k l p) = within_where (r == k && b == l) low high from to p
in_buffers r b low high from to _ = refl

in_files : (i low high n : ℕ) (a : Atom) → T (ltb i n) → InBoth (file_bytes i low high) (all_bytes_and_sizes n) a
in_files i low high n (byte_at k p) s = and_less (i == k && within low high p) (ltb k n) (λ h. subst (λ m. T (ltb m n)) (eqb→eq i k (left (i == k) _ h)) s)
in_files i low high n _ s = refl

in_all_files : (n m : ℕ) (a : Atom) → InBoth (all_bytes_and_sizes n) (all_bytes_and_sizes m) a
in_all_files n m (size_of i) = below_both i n m
in_all_files n m (byte_at i p) = below_both i n m
in_all_files n m _ = refl

in_names : (n m : ℕ) (a : Atom) → InBoth (all_names n) (all_names m) a
in_names n m (name_at d x) = below_both d n m
in_names n m (names_in d) = below_both d n m
in_names n m _ = refl

in_positions : (n m : ℕ) (a : Atom) → InBoth (all_positions n) (all_positions m) a
in_positions n m (position_of d) = below_both d n m
in_positions n m _ = refl

in_descriptions : (n m : ℕ) (a : Atom) → InBoth (all_descriptions n) (all_descriptions m) a
in_descriptions n m (description_at d) = below_both d n m
in_descriptions n m _ = refl

pub shared_is_both : SharedIsBoth
shared_is_both (one b) y a s = at_one b y a (holds_true _ s)
shared_is_both (file_bytes i low high) (file_bytes j from to) a s =
    subst (λ n. InBoth (file_bytes i low high) (file_bytes n from to) a) (eqb→eq i j (left (i == j) _ (holds_true _ s))) (in_bytes i low high from to a)
shared_is_both (file_bytes i low high) (all_bytes_and_sizes n) a s = in_files i low high n a (left (ltb i n) _ (holds_true _ s))
shared_is_both (all_bytes_and_sizes n) (file_bytes i low high) a s = in_files i low high n a (left (ltb i n) _ (holds_true _ s))
    ∙ and_comm (member_of (file_bytes i low high) a) _
shared_is_both (all_bytes_and_sizes n) (all_bytes_and_sizes m) a s = in_all_files n m a
shared_is_both (buffer_bytes r b low high) (buffer_bytes q c from to) a s =
    let same = left (r == q && b == c) _ (holds_true _ s) in
    let buffers : InBoth (buffer_bytes r b low high) (buffer_bytes r c from to) a = subst (λ n. InBoth (buffer_bytes r b low high) (buffer_bytes r n from to) a) (eqb→eq b c (right (r == q) _ same)) (in_buffers r b low high from to a) in
    subst (λ n. InBoth (buffer_bytes r b low high) (buffer_bytes n c from to) a) (eqb→eq r q (left (r == q) _ same)) buffers
shared_is_both (all_names n) (all_names m) a s = in_names n m a
shared_is_both (all_positions n) (all_positions m) a s = in_positions n m a
shared_is_both (all_descriptions n) (all_descriptions m) a s = in_descriptions n m a
shared_is_both all_descriptors all_descriptors a s = sym (and_self (member_of all_descriptors a))
shared_is_both (file_bytes i low high) (one b) a s = with_one (file_bytes i low high) b a (holds_true _ s)
shared_is_both (buffer_bytes r q low high) (one b) a s = with_one (buffer_bytes r q low high) b a (holds_true _ s)
shared_is_both (all_names n) (one b) a s = with_one (all_names n) b a (holds_true _ s)
shared_is_both (all_bytes_and_sizes n) (one b) a s = with_one (all_bytes_and_sizes n) b a (holds_true _ s)
shared_is_both (all_positions n) (one b) a s = with_one (all_positions n) b a (holds_true _ s)
shared_is_both (all_descriptions n) (one b) a s = with_one (all_descriptions n) b a (holds_true _ s)
shared_is_both all_descriptors (one b) a s = with_one all_descriptors b a (holds_true _ s)
shared_is_both _ _ a s = (cc)

or_some : {A : Type 0} (o p : Option A) → is_some (option_or o p) ≡ (is_some o || is_some p)
or_some None p = refl
or_some (Some x) p = refl

-- A use shares an item with some others exactly where it collides with one.
shared_with_some : (u : Use) (g : Footprint) → is_some (shared_with u g) ≡ list_any (λ (v : Use). (u.written || v.written) && share u.item v.item) g
shared_with_some u [] = refl
shared_with_some u (v ∷ g) = or_some (shared_by u v) (shared_with u g) ∙ (λ i. by_some ((u.written || v.written) && share u.item v.item) i || shared_with_some u g i)
  where
    by_some : (b : Bool) → is_some (if b then Some (shared_item u.item v.item) else None) ≡ b
    by_some true = refl
    by_some false = refl

pub shared_where_colliding : SharedWhereColliding
shared_where_colliding [] g = refl
shared_where_colliding (u ∷ f) g = or_some (shared_with u g) (shared_of f g) ∙ (λ i. shared_with_some u g i || shared_where_colliding f g i)
