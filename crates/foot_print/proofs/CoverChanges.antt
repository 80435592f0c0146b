-- From changes to worlds: changes that an access set supports keep agreement on it, and change nothing else than it writes.
use Rattle.std.specs.Prelude.{◌≡◌, ℕ, Bool, cond, not, ◌&&◌, ◌==◌, max, ◌+◌, ◌<◌, ◌≤◌, leb, ◌⊎◌, T, List, [], ◌∷◌, length, Option, Some, None, refl, IfSome, slice_index_or, ◌-◌}
use Rattle.std.specs.Option.{option_map, is_some}
use Rattle.std.specs.Cmp.{unsigned_tied}
use mathlib.Core.Path.{sym, subst, ap, ◌∙◌}
use mathlib.Core.Logic.{inl, inr}
use native.Mathlib.Omega.{arith}
use lib.Dec.{eqb→eq, leb→le}
use Rattle.finite_maps.specs.Table.{get, get-insert, number_keys}
use Rattle.world_parts.specs.World.{World, Opened, Broken, kind, bytes, size, name, name_count, Change, set_name, make_node, make_description, set_slot, set_descriptor, set_position, set_size, write_bytes, zero_bytes, write_buffer, break_chain, apply, apply_all}
use Rattle.file_tree.specs.Tree.{Target, Kind, a_directory, a_file, byte_of}
use Rattle.world_parts.specs.Items.{Atom, chain_flag, slot_at, descriptor_at, description_at, position_of, size_of, byte_at, name_at, names_in, buffer_byte, Value, value, within, Footprint, has_atom, writes_atom, Agree, Holds}
use Rattle.world_parts.proofs.Collision.{not_both, text_eq, left, right, writes-has}
use Rattle.world_parts.proofs.ChangesOfNames.{Leads, renamed, set_name-value}
use Rattle.world_parts.proofs.ChangesOfFiles.{emptied, zero_bytes-value, buffered, write_buffer-value}
use Rattle.world_parts.proofs.ChangesOfMaking.{Unused, made, make_node-value, described, make_description-value, slotted, set_slot-value, held_at, set_descriptor-value, cut, set_size-value}
use Rattle.world_parts.proofs.ByteWords.{past_end}
use Rattle.std.specs.Str.{bytes_eq}
use Rattle.world_parts.proofs.Changes.{positioned, set_position-value, written, write_bytes-value}

-- A chain that breaks.
abbrev flagged : ℕ → Broken → (a : Atom) → Value a → Value a
flagged c b (chain_flag e) x = cond (e == c) (Some b) x
flagged c b a x = x

break_chain-value : (s : World) (c : ℕ) (b : Broken) (a : Atom) → value (apply (break_chain c b) s) a ≡ flagged c b a (value s a)
break_chain-value s c b (chain_flag e) = get-insert number_keys.total s.broken c b e ∙ ap (λ q. cond q (Some b) (get s.broken e)) (unsigned_tied e c)
break_chain-value s c b _ = refl

-- What a new node has.
abbrev pub contents : ℕ → Kind → Atom
contents i a_file = size_of i
contents i a_directory = names_in i

-- An access set supports a change in a world: it writes what the change changes, and has what decides that.
abbrev pub Supports : Footprint → World → Change → Type 0
Supports f s (set_position d p) = T (writes_atom f (position_of d))
Supports f s (break_chain c b) = T (writes_atom f (chain_flag c))
Supports f s (write_bytes i at new) =
    T (is_some (size s i)) × T (has_atom f (size_of i))
    × (T (writes_atom f (size_of i)) ⊎ IfSome (size s i) (λ n. at + length new ≤ n))
    × ((p : ℕ) → T (within at (at + length new) p) → T (writes_atom f (byte_at i p)))
Supports f s (set_name d n x) = Leads s x × T (writes_atom f (name_at d n)) × T (writes_atom f (names_in d))
Supports f s (make_node i k) = Unused s i × T (writes_atom f (contents i k))
Supports f s (make_description n o) = (kind s o.target.node ≡ o.target.kind) × T (writes_atom f (description_at n)) × T (writes_atom f (position_of n))
Supports f s (set_slot r n x) = T (writes_atom f (slot_at r n))
Supports f s (set_descriptor n x) = T (writes_atom f (descriptor_at n))
Supports f s (set_size i n) =
    (T (writes_atom f (size_of i)) ⊎ IfSome (size s i) (λ m. m ≡ n))
    × IfSome (size s i) (λ m. (p : ℕ) → n ≤ p → p < m → T (writes_atom f (byte_at i p)))
Supports f s (zero_bytes i low high) = (p : ℕ) → T (within low high p) → T (writes_atom f (byte_at i p))
Supports f s (write_buffer r b at new) = (p : ℕ) → T (within at (at + length new) p) → T (writes_atom f (buffer_byte r b p))

abbrev pub SupportsAll : Footprint → World → List Change → Type 0
SupportsAll f s [] = Unit {0}
SupportsAll f s (c ∷ cs) = Supports f s c × SupportsAll f (apply c s) cs

sized : (x : Option (List ℕ)) → T (is_some (option_map length x)) → T (is_some x)
sized x h = grind arith

-- A change that makes of each atom's value a function of it keeps agreement.
agree_by : (f : Footprint) (s u : World) (c : Change) (g : (a : Atom) → Value a → Value a) → ((a : Atom) → value (apply c s) a ≡ g a (value s a)) → ((a : Atom) → value (apply c u) a ≡ g a (value u a)) → Agree f s u → Agree f (apply c s) (apply c u)
agree_by f s u c g in_s in_u h = record { same = λ a m. in_s a ∙ ap (g a) (h.same a m) ∙ sym (in_u a) }

-- Worlds that agree on the access set agree on it after a change that it supports in both.
pub agree_after_change : (f : Footprint) (s u : World) (c : Change) → Supports f s c → Supports f u c → Agree f s u → Agree f (apply c s) (apply c u)
agree_after_change f s u (set_position d p) h k g = agree_by f s u (set_position d p) (positioned d p) (set_position-value s d p) (set_position-value u d p) g
agree_after_change f s u (break_chain c b) h k g = agree_by f s u (break_chain c b) (flagged c b) (break_chain-value s c b) (break_chain-value u c b) g
agree_after_change f s u (write_bytes i at new) h k g =
    agree_by f s u (write_bytes i at new) (written i at new) (λ a. write_bytes-value s i at new a (sized (bytes s i) h.0)) (λ a. write_bytes-value u i at new a (sized (bytes u i) k.0)) g
agree_after_change f s u (set_name d n x) h k g =
    let there : is_some (name u d n) ≡ is_some (name s d n) = sym (ap is_some (g.same (name_at d n) (writes-has f (name_at d n) h.1))) in
    let found : is_some (name_count u d) ≡ is_some (name_count s d) = sym (ap is_some (g.same (names_in d) (writes-has f (names_in d) h.2))) in
    agree_by f s u (set_name d n x) (renamed d n x (is_some (name_count s d)) (is_some (name s d n))) (λ a. set_name-value n x s d a h.0) (λ a. set_name-value n x u d a k.0 ∙ (λ i. renamed d n x (found i) (there i) a (value u a))) g
agree_after_change f s u (make_node j q) h k g = agree_by f s u (make_node j q) (made j q) (λ a. make_node-value s j q a h.0) (λ a. make_node-value u j q a k.0) g
agree_after_change f s u (make_description n o) h k g = agree_by f s u (make_description n o) (described n o) (λ a. make_description-value s n o a h.0) (λ a. make_description-value u n o a k.0) g
agree_after_change f s u (set_slot r n x) h k g = agree_by f s u (set_slot r n x) (slotted r n x) (set_slot-value s r n x) (set_slot-value u r n x) g
agree_after_change f s u (set_descriptor n x) h k g = agree_by f s u (set_descriptor n x) (held_at n x) (set_descriptor-value s n x) (set_descriptor-value u n x) g
agree_after_change f s u (set_size j n) h k g = agree_by f s u (set_size j n) (cut j n) (set_size-value s j n) (set_size-value u j n) g
agree_after_change f s u (zero_bytes i low high) h k g = agree_by f s u (zero_bytes i low high) (emptied i low high) (zero_bytes-value s i low high) (zero_bytes-value u i low high) g
agree_after_change f s u (write_buffer r b at new) h k g = agree_by f s u (write_buffer r b at new) (buffered r b at new) (write_buffer-value s r b at new) (write_buffer-value u r b at new) g

unless : {A : Type 0} (b : Bool) (x y : A) → (T b → x ≡ y) → cond b x y ≡ y
unless b x y h = grind arith

-- An atom with a number that the access set writes.
module _ (f : Footprint) where
  clash : (at : ℕ → Atom) (e d : ℕ) → T (e == d) → T (writes_atom f (at d)) → T (not (writes_atom f (at e))) → ⊥
  clash at e d q w n = not_both _ n (subst (λ k. T (writes_atom f (at k))) (sym (eqb→eq e d q)) w)

  positioned_kept : (d p : ℕ) (a : Atom) (v : Value a) → T (writes_atom f (position_of d)) → T (not (writes_atom f a)) → positioned d p a v ≡ v
  positioned_kept d p (position_of e) v h n = unless (e == d) _ _ (λ q. absurd (clash position_of e d q h n))
  positioned_kept d p _ v h n = refl

  flagged_kept : (c : ℕ) (b : Broken) (a : Atom) (v : Value a) → T (writes_atom f (chain_flag c)) → T (not (writes_atom f a)) → flagged c b a v ≡ v
  flagged_kept c b (chain_flag e) v h n = unless (e == c) _ _ (λ q. absurd (clash chain_flag e c q h n))
  flagged_kept c b _ v h n = refl

  renamed_kept : (d : ℕ) (m : List ℕ) (x : Option Target) (dir there : Bool) (a : Atom) (v : Value a) → T (writes_atom f (name_at d m)) → T (writes_atom f (names_in d)) → T (not (writes_atom f a)) → renamed d m x dir there a v ≡ v
  renamed_kept d m x dir there (name_at e k) v h g n = unless (e == d && bytes_eq k m) _ _ (λ q. absurd (clash (λ j. name_at j k) e d (left (e == d) _ q) (subst (λ y. T (writes_atom f (name_at d y))) (sym (text_eq k m (right (e == d) _ q))) h) n))
  renamed_kept d m x dir there (names_in e) v h g n = unless (e == d) _ _ (λ q. absurd (clash names_in e d q g n))
  renamed_kept d m x dir there _ v h g n = refl

  made_kept : (i : ℕ) (k : Kind) (a : Atom) (v : Value a) → T (writes_atom f (contents i k)) → T (not (writes_atom f a)) → made i k a v ≡ v
  made_kept i a_file (size_of j) v h n = unless (j == i) _ _ (λ q. absurd (clash size_of j i q h n))
  made_kept i a_directory (names_in j) v h n = unless (j == i) _ _ (λ q. absurd (clash names_in j i q h n))
  made_kept i a_file _ v h n = refl
  made_kept i a_directory _ v h n = refl

  described_kept : (d : ℕ) (o : Opened) (a : Atom) (v : Value a) → T (writes_atom f (description_at d)) → T (writes_atom f (position_of d)) → T (not (writes_atom f a)) → described d o a v ≡ v
  described_kept d o (description_at e) v h g n = unless (e == d) _ _ (λ q. absurd (clash description_at e d q h n))
  described_kept d o (position_of e) v h g n = unless (e == d) _ _ (λ q. absurd (clash position_of e d q g n))
  described_kept d o _ v h g n = refl

  slotted_kept : (r m : ℕ) (x : Option ℕ) (a : Atom) (v : Value a) → T (writes_atom f (slot_at r m)) → T (not (writes_atom f a)) → slotted r m x a v ≡ v
  slotted_kept r m x (slot_at q k) v h n = unless (q == r && k == m) _ _ (λ e. absurd (clash (λ j. slot_at j k) q r (left (q == r) _ e) (subst (λ y. T (writes_atom f (slot_at r y))) (sym (eqb→eq k m (right (q == r) _ e))) h) n))
  slotted_kept r m x _ v h n = refl

  held_kept : (m : ℕ) (x : Option ℕ) (a : Atom) (v : Value a) → T (writes_atom f (descriptor_at m)) → T (not (writes_atom f a)) → held_at m x a v ≡ v
  held_kept m x (descriptor_at k) v h n = unless (k == m) _ _ (λ q. absurd (clash descriptor_at k m q h n))
  held_kept m x _ v h n = refl

same_size : (x : Option ℕ) (n : ℕ) → IfSome x (λ m. m ≡ n) → option_map (λ m. n) x ≡ x
same_size x n h = grind arith

-- A byte past a new size is written, or zero already.
zero_or_written : (f : Footprint) (x : Option (List ℕ)) (i n p : ℕ) → IfSome (option_map length x) (λ m. (q : ℕ) → n ≤ q → q < m → T (writes_atom f (byte_at i q))) → n ≤ p → T (not (writes_atom f (byte_at i p))) → 0 ≡ byte_of x p
zero_or_written f x i n p h l k = grind (arith, past_end)

-- The change changes no other atom than those that the access set writes.
pub kept_by_change : (f : Footprint) (s : World) (c : Change) → Supports f s c → (a : Atom) → T (not (writes_atom f a)) → value (apply c s) a ≡ value s a
kept_by_change f s (set_position d p) h a n = set_position-value s d p a ∙ positioned_kept f d p a (value s a) h n
kept_by_change f s (break_chain c b) h a n = break_chain-value s c b a ∙ flagged_kept f c b a (value s a) h n
kept_by_change f s (set_name d m x) h a n = set_name-value m x s d a h.0 ∙ renamed_kept f d m x _ _ a (value s a) h.1 h.2 n
kept_by_change f s (make_node i k) h a n = make_node-value s i k a h.0 ∙ made_kept f i k a (value s a) h.1 n
kept_by_change f s (make_description d o) h a n = make_description-value s d o a h.0 ∙ described_kept f d o a (value s a) h.1 h.2 n
kept_by_change f s (set_slot r m x) h a n = set_slot-value s r m x a ∙ slotted_kept f r m x a (value s a) h n
kept_by_change f s (set_descriptor m x) h a n = set_descriptor-value s m x a ∙ held_kept f m x a (value s a) h n
kept_by_change f s (set_size i m) h a n = set_size-value s i m a ∙ kept a n
  where
    sized_same : (j : ℕ) → T (not (writes_atom f (size_of j))) → T (j == i) → T (writes_atom f (size_of i)) ⊎ IfSome (size s i) (λ k. k ≡ m) → option_map (λ k. m) (size s j) ≡ size s j
    sized_same j n q (inl w) = absurd (clash f size_of j i q w n)
    sized_same j n q (inr g) = same_size (size s j) m (subst (λ k. IfSome (size s k) (λ y. y ≡ m)) (sym (eqb→eq j i q)) g)

    kept : (a : Atom) → T (not (writes_atom f a)) → cut i m a (value s a) ≡ value s a
    kept (size_of j) n = unless (j == i) _ _ (λ q. sized_same j n q h.0)
    kept (byte_at j p) n = unless (j == i && leb m p) _ _ (λ q.
        let e = eqb→eq j i (left (j == i) _ q) in
        zero_or_written f (bytes s j) j m p (subst (λ k. IfSome (size s k) (λ y. (o : ℕ) → m ≤ o → o < y → T (writes_atom f (byte_at k o)))) (sym e) h.1) (leb→le m p (right (j == i) _ q)) n)
    kept _ n = refl
kept_by_change f s (write_bytes i at new) h a n = write_bytes-value s i at new a (sized (bytes s i) h.0) ∙ kept a n
  where
    grown : (x : Option ℕ) → IfSome x (λ m. at + length new ≤ m) → option_map (λ m. max m (at + length new)) x ≡ x
    grown x g = grind arith

    sized_same : (j : ℕ) → T (not (writes_atom f (size_of j))) → T (j == i) → T (writes_atom f (size_of i)) ⊎ IfSome (size s i) (λ m. at + length new ≤ m) → option_map (λ m. max m (at + length new)) (size s j) ≡ size s j
    sized_same j n q (inl w) = absurd (clash f size_of j i q w n)
    sized_same j n q (inr g) = grown (size s j) (subst (λ k. IfSome (size s k) (λ m. at + length new ≤ m)) (sym (eqb→eq j i q)) g)

    kept : (a : Atom) → T (not (writes_atom f a)) → written i at new a (value s a) ≡ value s a
    kept (size_of j) n = unless (j == i) _ _ (λ q. sized_same j n q h.2)
    kept (byte_at j p) n = unless (j == i && within at (at + length new) p) _ _ (λ q. absurd (clash f (λ k. byte_at k p) j i (left (j == i) _ q) (h.3 p (right (j == i) _ q)) n))
    kept _ n = refl
kept_by_change f s (zero_bytes i low high) h a n = zero_bytes-value s i low high a ∙ kept a n
  where
    kept : (a : Atom) → T (not (writes_atom f a)) → emptied i low high a (value s a) ≡ value s a
    kept (byte_at j p) n = unless (j == i) _ _ (λ q. unless (within low high p) _ _ (λ l. absurd (clash f (λ k. byte_at k p) j i q (h p l) n)))
    kept _ n = refl
kept_by_change f s (write_buffer r b at new) h a n = write_buffer-value s r b at new a ∙ kept a n
  where
    untouched : (p : ℕ) (x : Option ℕ) → (T (within at (at + length new) p) → ⊥) → option_map (λ y. cond (within at (at + length new) p) (slice_index_or new (p - at) 0) y) x ≡ x
    untouched p x k = grind arith

    kept : (a : Atom) → T (not (writes_atom f a)) → buffered r b at new a (value s a) ≡ value s a
    kept (buffer_byte q c p) n = unless (q == r && c == b) _ _ (λ e. untouched p _ (λ l. clash f (λ k. buffer_byte k c p) q r (left (q == r) _ e) (subst (λ x. T (writes_atom f (buffer_byte r x p))) (sym (eqb→eq c b (right (q == r) _ e))) (h p l)) n))
    kept _ n = refl

-- An access set supports what one supports that it holds.
either_held : {A B C : Type 0} → (A → B) → A ⊎ C → B ⊎ C
either_held g (inl a) = inl (g a)
either_held g (inr c) = inr c

if_held : {A : Type 0} {P Q : A → Type 0} (x : Option A) → ((a : A) → P a → Q a) → IfSome x P → IfSome x Q
if_held None g h = h
if_held (Some a) g h = g a h

pub supports_held : (g f : Footprint) (s : World) (c : Change) → Holds g f → Supports f s c → Supports g s c
supports_held g f s (set_position d p) w h = w.writes (position_of d) h
supports_held g f s (break_chain c b) w h = w.writes (chain_flag c) h
supports_held g f s (write_bytes i at new) w h = (h.0, w.has (size_of i) h.1, either_held (w.writes (size_of i)) h.2, λ p m. w.writes (byte_at i p) (h.3 p m))
supports_held g f s (set_name d n x) w h = (h.0, w.writes (name_at d n) h.1, w.writes (names_in d) h.2)
supports_held g f s (make_node i k) w h = (h.0, w.writes (contents i k) h.1)
supports_held g f s (make_description n o) w h = (h.0, w.writes (description_at n) h.1, w.writes (position_of n) h.2)
supports_held g f s (set_slot r n x) w h = w.writes (slot_at r n) h
supports_held g f s (set_descriptor n x) w h = w.writes (descriptor_at n) h
supports_held g f s (set_size i n) w h = (either_held (w.writes (size_of i)) h.0, if_held (size s i) (λ m k p l b. w.writes (byte_at i p) (k p l b)) h.1)
supports_held g f s (zero_bytes i low high) w h = λ p m. w.writes (byte_at i p) (h p m)
supports_held g f s (write_buffer r b at new) w h = λ p m. w.writes (buffer_byte r b p) (h p m)

pub supports_all_held : (g f : Footprint) (s : World) (cs : List Change) → Holds g f → SupportsAll f s cs → SupportsAll g s cs
supports_all_held g f s [] w h = tt
supports_all_held g f s (c ∷ cs) w h = (supports_held g f s c w h.0, supports_all_held g f (apply c s) cs w h.1)

pub agree_after_changes : (f : Footprint) (s u : World) (cs : List Change) → SupportsAll f s cs → SupportsAll f u cs → Agree f s u → Agree f (apply_all cs s) (apply_all cs u)
agree_after_changes f s u [] h k g = g
agree_after_changes f s u (c ∷ cs) h k g = agree_after_changes f (apply c s) (apply c u) cs h.1 k.1 (agree_after_change f s u c h.0 k.0 g)

pub kept_by_changes : (f : Footprint) (s : World) (cs : List Change) → SupportsAll f s cs → (a : Atom) → T (not (writes_atom f a)) → value (apply_all cs s) a ≡ value s a
kept_by_changes f s [] h a n = refl
kept_by_changes f s (c ∷ cs) h a n = kept_by_changes f (apply c s) cs h.1 a n ∙ kept_by_change f s c h.0 a n
