-- The world that a trace starts with, a part at a time.
use Rattle.std.proofs.Common.{◌≡◌, ℕ, zero, suc, ◌+◌, ◌-◌, ◌<◌, ◌≤◌, List, [], ◌∷◌, ◌++◌, length, take, get_or, Some, None, ◌∙◌, ap, refl, arith, eqb}
use Rattle.std.specs.Prelude.{Option, Bool, map, cond, replicate, Result, Ok, Err}
use Rattle.std.proofs.lemmas.List.{take_more, length-take-le}
use Rattle.std.proofs.lemmas.Bool.{eq-eqb, ne_eqb}
use Rattle.std.specs.Ordering.{nat_cmp}
use Rattle.sqe_codec.specs.declared.errno.Errno.{Errno}
use Rattle.trace_format.specs.Paths.{components}
use Rattle.trace_records.specs.declared.start.Node as initial_node
use Rattle.trace_records.specs.declared.start.Node.TheVariants.{Directory, File, OtherName}
use Rattle.file_tree.specs.Tree.{a_directory, a_file}
use Rattle.file_tree.specs.Walk.{Place, walk_from}
use Rattle.trace_records.specs.declared.start.Item.{Item}
use Rattle.trace_records.specs.declared.start.Range.{Range}
use Rattle.recording.specs.declared.recording.Ring.{Ring}
use Rattle.trace_format.specs.declared.trace.Buffer.{Buffer}
use Rattle.finite_maps.specs.Table.{Table, empty, insert, number_keys, pair_keys, pair_cmp}
use Rattle.world_parts.specs.World.{World, Description, apply, apply_all, make_node, set_size}
use Rattle.world_parts.specs.Start.{descriptions_from, descriptors_from, slots_from, buffers_from, ring_slots, ring_buffers, with_node, with_items, name_at, range_written, bare}
use Rattle.world_parts.proofs.Fills.{keep, filled, rows_filled, rows_next, filled_next}

-- what a slot or a descriptor holds
abbrev pub held : ℕ → Option ℕ
held zero = None
held (suc d) = Some d

pub held-full : (n d : ℕ) → 1 ≤ n → d ≡ n - 1 → held n ≡ Some d
held-full n d lt e = grind arith

pub held-empty : (n : ℕ) → (1 ≤ n → ⊥) → held n ≡ None
held-empty n none = grind arith

-- the bytes of a buffer that is no empty entry
abbrev pub zeros : Buffer → Option (List ℕ)
zeros b = cond (eqb b.len 0) None (Some (replicate b.len 0))

pub zeros-full : (b : Buffer) → (b.len ≡ 0 → ⊥) → zeros b ≡ Some (replicate b.len 0)
zeros-full b some = ap (λ (e : Bool). cond e None (Some (replicate b.len 0))) (ne_eqb b.len 0 some)

pub zeros-empty : (b : Buffer) → b.len ≡ 0 → zeros b ≡ None
zeros-empty b none = ap (λ (e : Bool). cond e None (Some (replicate b.len 0))) (eq-eqb b.len 0 none)

descriptions_filled : (n : ℕ) (ds : List Description) → descriptions_from n ds ≡ filled number_keys Some (λ i. i) n ds empty
descriptions_filled n [] = refl
descriptions_filled n (d ∷ ds) = ap (λ (t : Table nat_cmp Description). insert number_keys.total t n d) (descriptions_filled (suc n) ds)

descriptors_filled : (n : ℕ) (ds : List ℕ) → descriptors_from n ds ≡ filled number_keys held (λ i. i) n ds empty
descriptors_filled n [] = refl
descriptors_filled n (d ∷ ds) = grind (arith, descriptors_filled (suc n) ds)

slots_filled : (r n : ℕ) (ds : List ℕ) (m : Table pair_cmp ℕ) → slots_from r n ds m ≡ filled pair_keys held (λ i. (r, i)) n ds m
slots_filled r n [] m = refl
slots_filled r n (d ∷ ds) m = grind (arith, slots_filled r (suc n) ds m)

buffers_filled : (r n : ℕ) (bs : List Buffer) (m : Table pair_cmp (List ℕ)) → buffers_from r n bs m ≡ filled pair_keys zeros (λ i. (r, i)) n bs m
buffers_filled r n [] m = refl
buffers_filled r n (b ∷ bs) m = grind (arith, buffers_filled r (suc n) bs m)

ring_slots_filled : (r : ℕ) (xs : List Ring) → ring_slots r xs ≡ rows_filled pair_keys held (λ x. x.slots) r xs
ring_slots_filled r [] = refl
ring_slots_filled r (x ∷ xs) = slots_filled r 0 x.slots (ring_slots (suc r) xs) ∙ ap (filled pair_keys held (λ i. (r, i)) 0 x.slots) (ring_slots_filled (suc r) xs)

ring_buffers_filled : (r : ℕ) (xs : List Ring) → ring_buffers r xs ≡ rows_filled pair_keys zeros (λ x. x.buffers) r xs
ring_buffers_filled r [] = refl
ring_buffers_filled r (x ∷ xs) = buffers_filled r 0 x.buffers (ring_buffers (suc r) xs) ∙ ap (filled pair_keys zeros (λ i. (r, i)) 0 x.buffers) (ring_buffers_filled (suc r) xs)

same_number : (r i j : ℕ) → ◌≡◌ {A = ℕ × ℕ} (r, i) (r, j) → i ≡ j
same_number r i j h = ap (λ (p : ℕ × ℕ). p.1) h

-- one more of each

pub descriptions-more : (ds : List Description) (i : ℕ) (d : Description) → i < length ds → descriptions_from 0 (take (i + 1) ds) ≡ insert number_keys.total (descriptions_from 0 (take i ds)) i (get_or ds i d)
descriptions-more ds i d lt = filled_next number_keys Some (λ i. i) (λ i j h. h) empty (descriptions_from 0) (descriptions_filled 0) ds i d lt

pub descriptors-more : (ds : List ℕ) (i d : ℕ) → i < length ds → descriptors_from 0 (take (i + 1) ds) ≡ keep number_keys (descriptors_from 0 (take i ds)) i (held (get_or ds i d))
descriptors-more ds i d lt = filled_next number_keys held (λ i. i) (λ i j h. h) empty (descriptors_from 0) (descriptors_filled 0) ds i d lt

pub slots-more : (r : ℕ) (ds : List ℕ) (m : Table pair_cmp ℕ) (i d : ℕ) → i < length ds → slots_from r 0 (take (i + 1) ds) m ≡ keep pair_keys (slots_from r 0 (take i ds) m) (r, i) (held (get_or ds i d))
slots-more r ds m i d lt = filled_next pair_keys held (λ i. (r, i)) (same_number r) m (λ l. slots_from r 0 l m) (λ l. slots_filled r 0 l m) ds i d lt

pub buffers-more : (r : ℕ) (bs : List Buffer) (m : Table pair_cmp (List ℕ)) (i : ℕ) (b : Buffer) → i < length bs → buffers_from r 0 (take (i + 1) bs) m ≡ keep pair_keys (buffers_from r 0 (take i bs) m) (r, i) (zeros (get_or bs i b))
buffers-more r bs m i b lt = filled_next pair_keys zeros (λ i. (r, i)) (same_number r) m (λ l. buffers_from r 0 l m) (λ l. buffers_filled r 0 l m) bs i b lt

pub ring_slots-more : (xs : List Ring) (i : ℕ) (x : Ring) → i < length xs → ring_slots 0 (take (i + 1) xs) ≡ slots_from i 0 (get_or xs i x).slots (ring_slots 0 (take i xs))
ring_slots-more xs i x lt =
    rows_next pair_keys held (λ x. x.slots) (ring_slots 0) (ring_slots_filled 0) (λ r ds m. slots_from r 0 ds m) (λ r ds m. slots_filled r 0 ds m) xs i x lt

pub ring_buffers-more : (xs : List Ring) (i : ℕ) (x : Ring) → i < length xs → ring_buffers 0 (take (i + 1) xs) ≡ buffers_from i 0 (get_or xs i x).buffers (ring_buffers 0 (take i xs))
ring_buffers-more xs i x lt =
    rows_next pair_keys zeros (λ x. x.buffers) (ring_buffers 0) (ring_buffers_filled 0) (λ r bs m. buffers_from r 0 bs m)
    (λ r bs m. buffers_filled r 0 bs m) xs i x lt

with_items-push : (s : World) (n : ℕ) (xs : List Item) (x : Item) → with_items s n (xs ++ x ∷ []) ≡ with_node (with_items s n xs) (n + length xs) x.path x.node
with_items-push s n [] x =
    let e : n ≡ n + 0 = omega arith in
    ap (λ (k : ℕ). with_node s k x.path x.node) e
with_items-push s n (y ∷ ys) x =
    let e : suc n + length ys ≡ n + length (y ∷ ys) = omega arith in
    with_items-push (with_node s n y.path y.node) (suc n) ys x ∙ ap (λ (k : ℕ). with_node (with_items s n (y ∷ ys)) k x.path x.node) e

pub with_items-more : (s : World) (xs : List Item) (i : ℕ) (x : Item) → i < length xs → with_items s 1 (take (i + 1) xs) ≡ with_node (with_items s 1 (take i xs)) (i + 1) (get_or xs i x).path (get_or xs i x).node
with_items-more s xs i x lt =
    let y = get_or xs i x in
    let e : 1 + length (take i xs) ≡ i + 1 = omega (arith, length-take-le i xs) in
    ap (with_items s 1) (take_more xs i x lt) ∙ with_items-push s 1 (take i xs) y ∙ ap (λ (k : ℕ). with_node (with_items s 1 (take i xs)) k y.path y.node) e

-- a world in which nothing is open or registered
pub record IsClosed (s : World) : Type 0 where
  pub descriptions : s.descriptions ≡ empty
  pub slots : s.slots ≡ empty
  pub descriptors : s.descriptors ≡ empty
  pub buffers : s.buffers ≡ empty

closed_at : (s : World) (path : List ℕ) (i : ℕ) → IsClosed s → IsClosed (name_at s path i)
closed_at s path i h = by (walk_from s.nodes 0 (components path)) refl
  where
    by : (r : Result Place Errno) → walk_from s.nodes 0 (components path) ≡ r → IsClosed (name_at s path i)
    by (Ok p) e = rw e (record { descriptions = h.descriptions; slots = h.slots; descriptors = h.descriptors; buffers = h.buffers })
    by (Err x) e = rw e h

closed_file : (s : World) (i size : ℕ) (ranges : List Range) → IsClosed s → IsClosed (apply_all (map (range_written i) ranges ++ set_size i size ∷ []) s)
closed_file s i size [] h = record { descriptions = h.descriptions; slots = h.slots; descriptors = h.descriptors; buffers = h.buffers }
closed_file s i size (r ∷ ranges) h =
    closed_file (apply (range_written i r) s) i size ranges (record { descriptions = h.descriptions; slots = h.slots; descriptors = h.descriptors; buffers = h.buffers })

-- the ranges of a file are written one after another
written-push : (s : World) (i : ℕ) (ranges : List Range) (r : Range)
    → apply_all (map (range_written i) (ranges ++ r ∷ [])) s ≡ apply (range_written i r) (apply_all (map (range_written i) ranges) s)
written-push s i [] r = refl
written-push s i (x ∷ xs) r = written-push (apply (range_written i x) s) i xs r

pub written-more : (s : World) (i : ℕ) (ranges : List Range) (k : ℕ) (r : Range) → k < length ranges
    → apply_all (map (range_written i) (take (k + 1) ranges)) s ≡ apply (range_written i (get_or ranges k r)) (apply_all (map (range_written i) (take k ranges)) s)
written-more s i ranges k r lt =
    ap (λ (rs : List Range). apply_all (map (range_written i) rs) s) (take_more ranges k r lt) ∙ written-push s i (take k ranges) (get_or ranges k r)

closed_node : (s : World) (i : ℕ) (path : List ℕ) (x : initial_node.Node) → IsClosed s → IsClosed (with_node s i path x)
closed_node s i path Directory h =
    closed_at (apply (make_node i a_directory) s) path i (record { descriptions = h.descriptions; slots = h.slots; descriptors = h.descriptors; buffers = h.buffers })
closed_node s i path (File size ranges) h =
    let made = apply (make_node i a_file) s in
    let cs = map (range_written i) ranges ++ set_size i size ∷ [] in
    closed_at (apply_all cs made) path i
    (closed_file made i size ranges (record { descriptions = h.descriptions; slots = h.slots; descriptors = h.descriptors; buffers = h.buffers }))
closed_node s i path (OtherName j) h = closed_at s path j h

-- the items of a trace open and register nothing
pub closed_items : (s : World) (i : ℕ) (xs : List Item) → IsClosed s → IsClosed (with_items s i xs)
closed_items s i [] h = h
closed_items s i (x ∷ xs) h = closed_items (with_node s i x.path x.node) (suc i) xs (closed_node s i x.path x.node h)

pub closed_start : (xs : List Item) → IsClosed (with_items bare 1 xs)
closed_start xs = closed_items bare 1 xs (record { descriptions = refl; slots = refl; descriptors = refl; buffers = refl })
