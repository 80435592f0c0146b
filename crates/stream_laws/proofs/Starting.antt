-- Slots, buffers and chains of the world at a start, and the buffers of a new ring.
use Rattle.std.proofs.Common.{◌≡◌, ℕ, suc, ◌+◌, ◌<◌, ◌≤◌, Bool, true, false, cond, List, [], ◌∷◌, ◌++◌, length, map, Some, None, refl, sym, ap, ◌∙◌, arith}
use Rattle.std.specs.Prelude.{All, Result, Ok, Err, replicate, ◌&&◌, ◌==◌, if◌then◌else◌}
use Rattle.std.specs.Ordering.{eq_by_cmp}
use Rattle.std.proofs.lemmas.Bool.{ne_eqb}
use Rattle.std.proofs.lemmas.List.Elements.{All-head, All-tail}
use Rattle.sqe_codec.specs.declared.errno.Errno.{Errno}
use Rattle.trace_format.specs.Paths.{components}
use Rattle.trace_format.specs.declared.trace.Buffer.{Buffer}
use Rattle.trace_records.specs.declared.start.Item.{Item}
use Rattle.trace_records.specs.declared.start.Node as initial_node
use Rattle.trace_records.specs.declared.start.Node.TheVariants.{Directory, File, OtherName}
use Rattle.trace_records.specs.declared.start.Range.{Range}
use Rattle.recording.specs.declared.recording.Ring.{Ring}
use Rattle.finite_maps.specs.Table.{Table, empty, get, insert, pair_keys, pair_cmp, get-insert}
use Rattle.file_tree.specs.Tree.{a_directory, a_file}
use Rattle.file_tree.specs.Walk.{Place, walk_from}
use Rattle.world_parts.specs.World.{World, apply, apply_all, make_node, set_size}
use Rattle.world_parts.specs.Start.{name_at, range_written, with_node, with_items, slots_from, buffers_from, ring_slots, ring_buffers}
use Rattle.world_parts.proofs.Changes.{pair_tied}
use Rattle.stream_laws.specs.Standing.{still_open, StartsEmpty}

abbrev Buffers : Type 0
Buffers = Table pair_cmp (List ℕ)

-- The items of a start break no chain.
named_keeps : (s : World) (path : List ℕ) (i : ℕ) → (name_at s path i).broken ≡ s.broken
named_keeps s path i = by (walk_from s.nodes 0 (components path)) refl
  where
    by : (r : Result Place Errno) → walk_from s.nodes 0 (components path) ≡ r → (name_at s path i).broken ≡ s.broken
    by (Ok p) e = rw e refl
    by (Err x) e = rw e refl

file_keeps : (s : World) (i size : ℕ) (ranges : List Range) → (apply_all (map (range_written i) ranges ++ set_size i size ∷ []) s).broken ≡ s.broken
file_keeps s i size [] = refl
file_keeps s i size (r ∷ ranges) = file_keeps (apply (range_written i r) s) i size ranges

node_keeps : (s : World) (i : ℕ) (path : List ℕ) (x : initial_node.Node) → (with_node s i path x).broken ≡ s.broken
node_keeps s i path Directory = named_keeps (apply (make_node i a_directory) s) path i
node_keeps s i path (File size ranges) =
    named_keeps (apply_all (make_node i a_file ∷ map (range_written i) ranges ++ set_size i size ∷ []) s) path i ∙ file_keeps (apply (make_node i a_file) s) i size ranges
node_keeps s i path (OtherName j) = named_keeps s path j

pub items_keep : (s : World) (i : ℕ) (xs : List Item) → (with_items s i xs).broken ≡ s.broken
items_keep s i [] = refl
items_keep s i (x ∷ xs) = items_keep (with_node s i x.path x.node) (suc i) xs ∙ node_keeps s i x.path x.node

-- Rings whose slots are empty fill none.
pub no_slots : (n : ℕ) (xs : List Ring) → All StartsEmpty (map still_open xs) → ring_slots n xs ≡ empty
no_slots n [] h = refl
no_slots n (x ∷ xs) h =
    let none : x.slots ≡ [] = All-head StartsEmpty (still_open x) (map still_open xs) h in
    let rest = no_slots (suc n) xs (All-tail StartsEmpty (still_open x) (map still_open xs) h) in
    λ i. slots_from n 0 (none i) (rest i)

-- The buffers of a ring are put beside those of others.
pub beside : (r n : ℕ) (bs : List Buffer) (m : Buffers) (q j : ℕ) → (q ≡ r → ⊥) → get (buffers_from r n bs m) (q, j) ≡ get m (q, j)
beside r n [] m q j ne = refl
beside r n (b ∷ bs) m q j ne = by (b.len == 0) (beside r (suc n) bs m q j ne)
  where
    by : (e : Bool) → get (buffers_from r (suc n) bs m) (q, j) ≡ get m (q, j)
        → get (if e then buffers_from r (suc n) bs m else insert pair_keys.total (buffers_from r (suc n) bs m) (r, n) (replicate b.len 0)) (q, j) ≡ get m (q, j)
    by true rest = rest
    by false rest =
        get-insert pair_keys.total (buffers_from r (suc n) bs m) (r, n) (replicate b.len 0) (q, j)
        ∙ ap (λ e. cond e (Some (replicate b.len 0)) (get (buffers_from r (suc n) bs m) (q, j))) (pair_tied q j r n ∙ ap (λ e. e && j == n) (ne_eqb q r ne))
        ∙ rest

-- They do not depend on what is there of other rings.
pub own_buffers : (r n : ℕ) (bs : List Buffer) (m k : Buffers) (j : ℕ) → get m (r, j) ≡ get k (r, j) → get (buffers_from r n bs m) (r, j) ≡ get (buffers_from r n bs k) (r, j)
own_buffers r n [] m k j e = e
own_buffers r n (b ∷ bs) m k j e = by (b.len == 0) (own_buffers r (suc n) bs m k j e)
  where
    by : (c : Bool) → get (buffers_from r (suc n) bs m) (r, j) ≡ get (buffers_from r (suc n) bs k) (r, j)
        → get (if c then buffers_from r (suc n) bs m else insert pair_keys.total (buffers_from r (suc n) bs m) (r, n) (replicate b.len 0)) (r, j)
        ≡ get (if c then buffers_from r (suc n) bs k else insert pair_keys.total (buffers_from r (suc n) bs k) (r, n) (replicate b.len 0)) (r, j)
    by true rest = rest
    by false rest =
        get-insert pair_keys.total (buffers_from r (suc n) bs m) (r, n) (replicate b.len 0) (r, j)
        ∙ ap (cond (eq_by_cmp pair_cmp (r, j) (r, n)) (Some (replicate b.len 0))) rest
        ∙ sym (get-insert pair_keys.total (buffers_from r (suc n) bs k) (r, n) (replicate b.len 0) (r, j))

-- No ring before the first, or behind the last, has buffers.
pub none_before : (r : ℕ) (xs : List Ring) (q j : ℕ) → q < r → get (ring_buffers r xs) (q, j) ≡ None
none_before r [] q j lt = refl
none_before r (x ∷ xs) q j lt = beside r 0 x.buffers (ring_buffers (suc r) xs) q j (λ e. absurd (omega (arith, e, lt))) ∙ none_before (suc r) xs q j (omega (arith, lt))

pub none_behind : (r : ℕ) (xs : List Ring) (q j : ℕ) → r + length xs ≤ q → get (ring_buffers r xs) (q, j) ≡ None
none_behind r [] q j le = refl
none_behind r (x ∷ xs) q j le =
    let past : suc r + length xs ≤ q = omega (arith, le) in
    beside r 0 x.buffers (ring_buffers (suc r) xs) q j (λ e. absurd (omega (arith, e, past))) ∙ none_behind (suc r) xs q j past

-- The buffers of a ring among others.
pub at_ring : (r : ℕ) (xs : List Ring) (x : Ring) (ys : List Ring) (q j : ℕ) → r + length xs ≡ q → get (ring_buffers r (xs ++ x ∷ ys)) (q, j) ≡ get (buffers_from q 0 x.buffers empty) (q, j)
at_ring r [] x ys q j e =
    let here : q ≡ r = omega (arith, e) in
    rw here (own_buffers r 0 x.buffers (ring_buffers (suc r) ys) empty j (none_before (suc r) ys r j (omega arith)))
at_ring r (z ∷ zs) x ys q j e =
    let next : suc r + length zs ≡ q = omega (arith, e) in
    beside r 0 z.buffers (ring_buffers (suc r) (zs ++ x ∷ ys)) q j (λ f. absurd (omega (arith, f, next))) ∙ at_ring (suc r) zs x ys q j next

-- Whether rings have ended does not matter.
pub ended_alike : (r : ℕ) (xs : List Ring) → ring_buffers r (map still_open xs) ≡ ring_buffers r xs
ended_alike r [] = refl
ended_alike r (x ∷ xs) = ap (buffers_from r 0 x.buffers) (ended_alike (suc r) xs)
