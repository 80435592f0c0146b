-- At the start of a trace the numbers of all places are unused.
use Rattle.std.proofs.lemmas.Bool.{ne_eqb}
use Rattle.std.specs.Prelude.{◌≡◌, ℕ, suc, cond, ◌+◌, ◌≤◌, List, [], ◌∷◌, ◌++◌, map, length, Some, None, refl}
use Rattle.std.specs.Option.{option_map}
use Rattle.std.specs.Ordering.{nat_cmp}
use Rattle.std.specs.Cmp.{unsigned_tied}
use mathlib.Core.Path.{ap, ◌∙◌}
use native.Mathlib.Omega.{arith}
use lib.Dec.{eqb→eq}
use Rattle.recording.specs.declared.recording.Recording.{Recording}
use Rattle.trace_records.specs.declared.start.Item.{Item}
use Rattle.trace_records.specs.declared.start.Node.{Node as InitialNode}
use Rattle.trace_records.specs.declared.start.Node.TheVariants.{Directory, File, OtherName}
use Rattle.trace_records.specs.declared.start.Range.{Range}
use Rattle.finite_maps.specs.Table.{Table, empty, get, insert, get-insert, get-assign, number_keys, adjust_number}
use Rattle.world_parts.specs.World.{World, Description, apply, apply_all, make_node, set_size}
use Rattle.file_tree.specs.Tree.{Node, a_directory, a_file, new_node}
use Rattle.world_parts.specs.Start.{start, name_at, range_written, with_node, with_items, descriptions_from, bare}
use Rattle.foot_print.specs.Replayed.{IsBefore}

-- Nothing stands at a number or above it.
abbrev Above : {X : Type 0} → ℕ → Table nat_cmp X → Type 0
Above n m = (q : ℕ) → n ≤ q → get m q ≡ None

-- A value that is put at another number changes nothing at a number where nothing is.
inserted_none : {X : Type 0} (m : Table nat_cmp X) (n q : ℕ) (x : X) → ¬ (q ≡ n) → get m q ≡ None → get (insert number_keys.total m n x) q ≡ None
inserted_none m n q x apart h =
    get-insert number_keys.total m n x q ∙ ap (λ b. cond b (Some x) (get m q)) (unsigned_tied q n ∙ ne_eqb q n apart) ∙ h

above_insert : {X : Type 0} (n : ℕ) (m : Table nat_cmp X) (x : X) → Above n m → Above (suc n) (insert number_keys.total m n x)
above_insert n m x h q le = inserted_none m n q x (λ e. omega arith) (h q (omega arith))

above_adjust : {X : Type 0} (f : X → X) (n : ℕ) (m : Table nat_cmp X) (k : ℕ) → Above n m → Above n (adjust_number f m k)
above_adjust f n m k h q le = let there = get-assign number_keys.total m k (option_map f (get m k)) q in let tied = unsigned_tied q k in grind (arith, eqb→eq)

above_named : (n : ℕ) (s : World) (path : List ℕ) (i : ℕ) → Above n s.nodes → Above n (name_at s path i).nodes
above_named n s path i h = grind (arith, above_adjust)

above_contents : (n : ℕ) (s : World) (i size : ℕ) (ranges : List Range) → Above n s.nodes → Above n (apply_all (map (range_written i) ranges ++ set_size i size ∷ []) s).nodes
above_contents n s i size [] h = above_adjust _ n s.nodes i h
above_contents n s i size (r ∷ ranges) h = above_contents n (apply (range_written i r) s) i size ranges (above_adjust _ n s.nodes i h)

above_node : (s : World) (i : ℕ) (path : List ℕ) (x : InitialNode) → Above i s.nodes → Above (suc i) (with_node s i path x).nodes
above_node s i path Directory h = above_named (suc i) (apply (make_node i a_directory) s) path i (above_insert i s.nodes (new_node a_directory) h)
above_node s i path (File size ranges) h =
    above_named (suc i) (apply_all (make_node i a_file ∷ map (range_written i) ranges ++ set_size i size ∷ []) s) path i
    (above_contents (suc i) (apply (make_node i a_file) s) i size ranges (above_insert i s.nodes (new_node a_file) h))
above_node s i path (OtherName j) h = above_named (suc i) s path j (λ q le. h q (omega arith))

above_items : (xs : List Item) (s : World) (i : ℕ) → Above i s.nodes → Above (i + length xs) (with_items s i xs).nodes
above_items [] s i h q le = h q (omega arith)
above_items (x ∷ xs) s i h q le = above_items xs (with_node s i x.path x.node) (suc i) (above_node s i x.path x.node h) q (omega arith)

above_descriptions : (ds : List Description) (n q : ℕ) → n + length ds ≤ q → get (descriptions_from n ds) q ≡ None
above_descriptions [] n q le = refl
above_descriptions (d ∷ ds) n q le =
    let more : n + suc (length ds) ≤ q = le in
    inserted_none (descriptions_from (suc n) ds) n q d (λ e. omega arith) (above_descriptions ds (suc n) q (omega arith))

pub above_bare : Above 1 bare.nodes
above_bare = above_insert 0 empty (Node.directory empty 0) (λ q le. refl)

pub starts_before : (t : Recording) → IsBefore t 0 (start t)
starts_before t j le = record {
  no_node = above_items t.items bare 1 above_bare _ (omega arith);
  no_description = above_descriptions t.descriptions 0 _ (omega arith);
}
