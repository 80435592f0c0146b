-- An entry that is taken out of a tree whose keys are seen by a function is taken out of the finite map.
use Rattle.std.proofs.Common.{◌≡◌, List, [], ◌∷◌, sym, ◌∙◌, ap, refl, arith}
use Rattle.std.specs.Prelude.{Bool, true, false, cond, None}
use Rattle.std.specs.Map.{lookup, remove_entry}
use Rattle.std.specs.declared.cmp.Ordering.{Ordering}
use Rattle.std.specs.Ordering.{eq_by_cmp}
use Rattle.std.specs.BTreeMap.{is_at}
use Rattle.finite_maps.specs.Table.{Table, IsKeyOrder, get, assign, get-assign, same_table}
use Rattle.finite_maps.specs.Maps.{seen_table}
use Rattle.finite_maps.proofs.TextMaps.{get-seen_table}
use Rattle.std.specs.Cmp.{Equal-is}

module _ {K L X : Type 0} {R : L → L → Ordering} (o : IsKeyOrder R) (f : K → L) where
  -- what the tree has at another key
  lookup-other : (k q : L) (es : List (K × X)) → eq_by_cmp R q k ≡ false → lookup (is_at (λ j. R q (f j))) (remove_entry (is_at (λ j. R k (f j))) es) ≡ lookup (is_at (λ j. R q (f j))) es
  lookup-other k q [] n = refl
  lookup-other k q (e ∷ es) n = grind (arith, o.same, lookup-other k q es n)

  pub seen-remove_entry : (es ns : List (K × X)) (t : Table R X) (k : L) → seen_table o.total f es ≡ t → ns ≡ remove_entry (is_at (λ j. R k (f j))) es → lookup (is_at (λ j. R k (f j))) ns ≡ None
      → seen_table o.total f ns ≡ assign o.total t k None
  seen-remove_entry es ns t k is e gone =
      same_table o _ _ (λ q. get-seen_table o f ns q ∙ found q (eq_by_cmp R q k) refl ∙ sym (get-assign o.total (seen_table o.total f es) k None q))
      ∙ ap (λ (m : Table R X). assign o.total m k None) is
    where
      found : (q : L) (b : Bool) → eq_by_cmp R q k ≡ b → lookup (is_at (λ j. R q (f j))) ns ≡ cond (eq_by_cmp R q k) None (get (seen_table o.total f es) q)
      found q true h = ap (λ x. lookup (is_at (λ j. R x (f j))) ns) (o.same q k ((Equal-is (R q k)).0 h)) ∙ gone ∙ sym (ap (λ b. cond b None (get (seen_table o.total f es) q)) h)
      found q false h = ap (λ xs. lookup (is_at (λ j. R q (f j))) xs) e ∙ lookup-other k q es h ∙ sym (get-seen_table o f es q) ∙ sym (ap (λ b. cond b None (get (seen_table o.total f es) q)) h)
