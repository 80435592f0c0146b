-- What the calls that put a part back make of trees and buffers, in the words of their contracts.
use Rattle.std.specs.Prelude.{◌≡◌, ℕ, Bool, true, false, List, [], length, map, T, Option, Some, None, Result, IfSome, OnOk}
use Rattle.std.specs.Option.{option_map, option_copied, is_some}
use Rattle.std.specs.Borrow.{Bor}
use Rattle.std.specs.declared.cmp.Ordering.{Ordering}
use mathlib.Core.Path.{sym, subst, ap, ◌∙◌}
use native.Mathlib.Omega.{arith}
use Rattle.finite_maps.specs.Table.{Table, IsKeyOrder, get, insert, assign, get-assign, same_table, adjust_number, number_keys, pair_cmp, pair_keys}
use Rattle.extent_bytes.specs.Bytes.{resized}
use Rattle.file_tree.specs.Tree.{Tree, file, new_node, a_file, rewritten_node}
use Rattle.file_tree.specs.Tree as tree
use Rattle.ring_tables.specs.Contents.{rewritten_at}
use Rattle.world_parts.specs.Putting.{sized, listed, with_nodes, with_items}
use Rattle.world_parts.specs.World.{World, IsWorld}
use Rattle.world_parts.specs.Items.{Footprint}
use Rattle.world_parts.specs.Cutting.{PutsTo, is_narrow}
use Rattle.world_parts.specs.Uses.{use_meant}
use Rattle.world_parts.specs.declared.footprint.Use.{Use}
use Rattle.world_parts.proofs.Nearer.{placed}
use Rattle.world_parts.proofs.PutBack.{put_makes_any}
use Rattle.std.proofs.lemmas.Result.{on_ok_weaker}
use Rattle.finite_maps.proofs.Maps.{same-assign}

module _ {K X : Type 0} {R : K → K → Ordering} (o : IsKeyOrder R) (m : Table R X) (k : K) where
  -- What is put last counts.
  pub assign-assign : (u v : Option X) → assign o.total (assign o.total m k u) k v ≡ assign o.total m k v
  assign-assign u v =
      same_table o _ _ (λ q. grind (arith, get-assign o.total (assign o.total m k u) k v q, get-assign o.total m k u q, get-assign o.total m k v q))

-- A node that is no file, where a part has none.
pub sized-none : (m : Tree) (i : ℕ) (o : Option ℕ) → None ≡ o → is_some (tree.size m i) ≡ false → m ≡ assign number_keys.total m i (sized o (get m i))
sized-none m i o n h = sym (same-assign number_keys m i (sized o (get m i)) (grind arith))

-- A file that is made longer or shorter, and one that is made first.
pub sized-old : (m : Tree) (i n : ℕ) (o : Option ℕ) → Some n ≡ o → is_some (tree.size m i) ≡ true → adjust_number (rewritten_node (λ old. resized old n)) m i ≡ assign number_keys.total m i (sized o (get m i))
sized-old m i n o e h = ap (assign number_keys.total m i) (grind arith)

pub sized-new : (m v : Tree) (i n : ℕ) (o : Option ℕ) → Some n ≡ o → is_some (tree.size m i) ≡ false → v ≡ insert number_keys.total m i (new_node a_file) → adjust_number (rewritten_node (λ old. resized old n)) v i ≡ assign number_keys.total m i (sized o (get m i))
sized-new m v i n o e h made =
    let there : Some (file (resized [] n)) ≡ sized o (get m i) = grind arith in
    ap (λ t. adjust_number (rewritten_node (λ old. resized old n)) t i) made
    ∙ ap (λ x. assign number_keys.total (insert number_keys.total m i (new_node a_file)) i (option_map (rewritten_node (λ old. resized old n)) x)) (placed number_keys m i (Some (new_node a_file)))
    ∙ assign-assign number_keys m i (Some (new_node a_file)) (Some (file (resized [] n)))
    ∙ ap (assign number_keys.total m i) there

-- What a reference is seen as is there where the reference is.
pub copied-some : {X : Type 0} (r : Option (Bor X)) (o : Option X) (b : Bool) → option_copied r ≡ o → is_some r ≡ b → is_some o ≡ b
copied-some r o b e h = grind arith

-- A node that is no directory, where a part has none, and one that is a directory.
pub listed-same : (m : Tree) (i : ℕ) (a b : Bool) → a ≡ b → is_some (tree.names m i) ≡ b → m ≡ assign number_keys.total m i (listed a (get m i))
listed-same m i a b e h = sym (same-assign number_keys m i (listed a (get m i)) (grind arith))

-- A change of bytes where there is no file, or no buffer.
pub rewritten-none : (m : Tree) (i : ℕ) (f : List ℕ → List ℕ) → None ≡ tree.size m i → m ≡ adjust_number (rewritten_node f) m i
rewritten-none m i f h = sym (same-assign number_keys m i (option_map (rewritten_node f) (get m i)) (grind arith))

pub rewritten_at-none : (m : Table pair_cmp (List ℕ)) (r b : ℕ) (f : List ℕ → List ℕ) → None ≡ option_map length (get m (r, b)) → m ≡ rewritten_at f m r b
rewritten_at-none m r b f h = sym (same-assign pair_keys m (r, b) (option_map f (get m (r, b))) (grind arith))

-- The world after both rounds is any world that has the part's values where the access set writes.
pub put_meets : {A E : Type 0} (r : Result A E) (us : List Use) (s u t : World) (found : Option Footprint) → Some (map use_meant us) ≡ found → IsWorld s → IfSome found (λ f. T (is_narrow f))
    → IfSome found (λ f. (after : World) × IsWorld after × PutsTo f s u after) → OnOk r (t ≡ with_items us u (with_nodes us u s)) → IfSome found (λ f. (after : World) → PutsTo f s u after → OnOk r (t ≡ after))
put_meets r us s u t found e before narrow fits made = subst (λ o. IfSome o (λ f. (after : World) → PutsTo f s u after → OnOk r (t ≡ after))) e
    (λ after puts.
    let some : (w : World) × IsWorld w × PutsTo (map use_meant us) s u w = subst (λ o. IfSome o (λ f. (w : World) × IsWorld w × PutsTo f s u w)) (sym e) fits in
    on_ok_weaker r (λ h. h ∙ put_makes_any us s u some.0 after before some.1 (subst (λ o. IfSome o (λ f. T (is_narrow f))) (sym e) narrow) some.2 puts) made)
