-- The finite map of entries whose keys ascend has those entries.
use Rattle.std.proofs.Common.{◌≡◌, ◌↔◌, List, [], ◌∷◌, ap, refl, sym, ◌∙◌}
use Rattle.std.specs.Prelude.{map}
use Rattle.std.specs.Map.{keys_of}
use Rattle.std.specs.declared.cmp.Ordering.{Ordering}
use Rattle.std.specs.declared.cmp.Ordering.TheVariants.{Less}
use Rattle.std.specs.List.{AllByRecursion}
use Rattle.std.specs.List.Sorted.{IsStrictlySortedBy}
use Rattle.std.specs.Cmp.{IsTotalOrder}
use Rattle.std.specs.FinMap.Entries.{put, by_order}
use Rattle.std.proofs.lemmas.Map.Keys.{sorted_head, sorted_tail}
use Rattle.finite_maps.specs.Table.{Table, IsKeyOrder, same_entries_table}
use Rattle.finite_maps.specs.Maps.{table_of, seen_table}

-- an entry below all others comes first
put_first : {K X : Type 0} (R : K → K → Ordering) (k : K) (v : X) (es : List (K × X)) → AllByRecursion (λ y. R k y ≡ Less) (keys_of es) → put R k v es ≡ (k, v) ∷ es
put_first R k v [] h = refl
put_first R k v (e ∷ es) h = ap (λ r. by_order r ((k, v) ∷ e ∷ es) ((e.0, v) ∷ es) (e ∷ put R k v es)) h.0

below_seen : {K L X : Type 0} (R : L → L → Ordering) (f : K → L) (k : K) (es : List (K × X)) → AllByRecursion (λ y. R (f k) (f y) ≡ Less) (keys_of es)
    → AllByRecursion (λ y. R (f k) y ≡ Less) (keys_of (map (λ (e : K × X). (f e.0, e.1)) es))
below_seen R f k [] h = tt
below_seen R f k (e ∷ es) h = (h.0, below_seen R f k es h.1)

sorted_seen : {K L X : Type 0} (R : L → L → Ordering) (f : K → L) (es : List (K × X)) → IsStrictlySortedBy (λ a b. R (f a) (f b)) (keys_of es)
    → IsStrictlySortedBy R (keys_of (map (λ (e : K × X). (f e.0, e.1)) es))
unfolding IsStrictlySortedBy
sorted_seen R f [] h = tt
sorted_seen R f (e ∷ es) h = (below_seen R f e.0 es h.0, sorted_seen R f es h.1)

entries-table_of : {K X : Type 0} {R : K → K → Ordering} (o : IsTotalOrder R) (es : List (K × X)) → IsStrictlySortedBy R (keys_of es) → (table_of o es).entries ≡ es
entries-table_of o [] h = refl
entries-table_of {R = R} o (e ∷ es) h = ap (put R e.0 e.1) (entries-table_of o es (sorted_tail R e.0 (keys_of es) h)) ∙ put_first R e.0 e.1 es (sorted_head R e.0 (keys_of es) h)

module _ {K X : Type 0} {R : K → K → Ordering} (o : IsKeyOrder R) where
  -- the entries of a tree are those of the map that it stands for
  pub entries_of : (es : List (K × X)) (t : Table R X) → IsStrictlySortedBy R (keys_of es) → table_of o.total es ≡ t → es ≡ t.entries
  entries_of es t h e = sym (entries-table_of o.total es h) ∙ ap (λ (m : Table R X). m.entries) e

  -- two maps are equal just where their entries are
  pub entries_agree : (t u : Table R X) (es fs : List (K × X)) → es ≡ t.entries → fs ≡ u.entries → (es ≡ fs) ↔ (t ≡ u)
  entries_agree t u es fs e f = ((λ same. same_entries_table t u (sym e ∙ same ∙ f)), (λ same. e ∙ ap (λ (m : Table R X). m.entries) same ∙ sym f))

-- the entries, where each key is seen by a function
module _ {K L X : Type 0} {R : L → L → Ordering} (o : IsKeyOrder R) (f : K → L) where
  pub seen_entries_of : (es : List (K × X)) (t : Table R X) → IsStrictlySortedBy (λ a b. R (f a) (f b)) (keys_of es) → seen_table o.total f es ≡ t → map (λ e. (f e.0, e.1)) es ≡ t.entries
  seen_entries_of es t h e = entries_of o (map (λ e. (f e.0, e.1)) es) t (sorted_seen R f es h) e
