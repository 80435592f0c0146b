-- Maps from a key to a set: one set changed, one set more, and the set at a key.
use Rattle.std.specs.Prelude.{◌≡◌, ℕ, Bool, true, false, ◌&&◌, ◌||◌, ◌==◌, ltb, List, [], ◌∷◌, filter, refl, Some, None}
use Rattle.std.specs.List.{list_any, IsDistinct}
use Rattle.std.specs.List.Sorted.{IsStrictlySortedBy}
use Rattle.std.specs.Cmp.{IsTotalOrder, eq_by_cmp_equiv, Equal-is}
use Rattle.std.specs.Map.{keys_of, lookup, set_value}
use Rattle.std.specs.BTreeMap.{insert_entry, is_at}
use Rattle.std.specs.declared.cmp.Ordering.{Ordering}
use Rattle.std.specs.declared.cmp.Ordering.TheVariants.{Equal}
use Rattle.std.specs.Ordering.{eq_by_cmp, is_eq, is_le, nat_cmp}
use Rattle.finite_maps.specs.Table.{pair_cmp}
use Rattle.std.proofs.Common.{not}
use Rattle.std.proofs.lemmas.Map.{NonePasses, none_passes_from_lookup}
use Rattle.std.proofs.lemmas.Map.Entries.{none_past_head}
use Rattle.std.proofs.lemmas.Map.Keys.{IsDistinct-from_sorted, IsDistinct-tail}
use Rattle.std.proofs.lemmas.Bool.Decides.{nat_tests}
use mathlib.Core.Path.{ap, sym, ◌∙◌}
use native.Mathlib.Omega.{arith}
use Rattle.item_index.proofs.Pieces.{added}
use Rattle.world_parts.proofs.Changes.{tied_then}

module _ {K V : Type 0} (cmp : K → K → Ordering) (exact : (x y : K) → cmp x y ≡ Equal → x ≡ y) (h : V → Bool) (k : K) where
  module _ (g : K → Bool) where
    abbrev passes : K × V → Bool
    passes e = g e.0 && h e.1

    pub changed : (es : List (K × V)) (old new : V) (b : Bool) → lookup (is_at (cmp k)) es ≡ Some old → h new ≡ (h old || b) → list_any passes (set_value (is_at (cmp k)) es new) ≡ (list_any passes es || (g k && b))
    changed [] old new b e l = absurd cc
    changed (x ∷ es) old new b e l =
        let here : is_eq (cmp k x.0) ≡ true → k ≡ x.0 = λ t. exact k x.0 ((Equal-is (cmp k x.0)).0 t) in
        grind (arith, changed es old new b, here)

    pub placed : (es : List (K × V)) (new : V) (b : Bool) → lookup (is_at (cmp k)) es ≡ None → h new ≡ b → list_any passes (insert_entry cmp es k new) ≡ (list_any passes es || (g k && b))
    placed es new b e l = added cmp passes es k new (none_passes_from_lookup (is_at (cmp k)) es e) ∙ ap (λ c. list_any passes es || (g k && c)) l

  module _ (same : K → K → Bool) (tells : (x : K) → is_eq (cmp k x) ≡ same x k) where
    abbrev fits : K × V → Bool
    fits e = same e.0 k && h e.1

    none_fits : (es : List (K × V)) → NonePasses (is_at (cmp k)) es → list_any fits es ≡ false
    none_fits [] n = refl
    none_fits (x ∷ es) n = rw (← tells x.0, n.0) (none_fits es n.1)

    pub at_none : (es : List (K × V)) → lookup (is_at (cmp k)) es ≡ None → false ≡ list_any fits es
    at_none es e = sym (none_fits es (none_passes_from_lookup (is_at (cmp k)) es e))

    at_first : (total : IsTotalOrder cmp) (es : List (K × V)) (v : V) → IsDistinct (eq_by_cmp cmp) (keys_of es) → lookup (is_at (cmp k)) es ≡ Some v → h v ≡ list_any fits es
    at_first total [] v d e = absurd cc
    at_first total (x ∷ es) v d e =
        let later = at_first total es v (IsDistinct-tail (eq_by_cmp cmp) x.0 (keys_of es) d) in
        let rest : is_eq (cmp k x.0) ≡ true → list_any fits es ≡ false = λ t. none_fits es (none_past_head (eq_by_cmp_equiv total) k x es d t) in
        grind (arith, later, rest, tells x.0)

    pub at_some : (total : IsTotalOrder cmp) (es : List (K × V)) (v : V) → IsStrictlySortedBy cmp (keys_of es) → lookup (is_at (cmp k)) es ≡ Some v → h v ≡ list_any fits es
    at_some total es v s e = at_first total es v (IsDistinct-from_sorted cmp (keys_of es) s) e

-- the same at a map that is seen as a list
module _ {K V : Type 0} (cmp : K → K → Ordering) (exact : (x y : K) → cmp x y ≡ Equal → x ≡ y) (k : K) (es seen : List (K × V)) (is : es ≡ seen) where
  pub changed_seen : (next : List (K × V)) (old new : V) → next ≡ set_value (is_at (cmp k)) es new → Some old ≡ lookup (is_at (cmp k)) es
      → (g : K → Bool) (h : V → Bool) (b : Bool) → h new ≡ (h old || b)
      → list_any (λ (e : K × V). g e.0 && h e.1) next ≡ (list_any (λ (e : K × V). g e.0 && h e.1) seen || (g k && b))
  changed_seen next old new made was g h b law = rw (made, changed cmp exact h k g es old new b (sym was) law, is)

  pub placed_seen : (there next : List (K × V)) (new : V) → there ≡ es → next ≡ insert_entry cmp there k new → None ≡ lookup (is_at (cmp k)) es
      → (g : K → Bool) (h : V → Bool) (b : Bool) → h new ≡ b
      → list_any (λ (e : K × V). g e.0 && h e.1) next ≡ (list_any (λ (e : K × V). g e.0 && h e.1) seen || (g k && b))
  placed_seen there next new same made was g h b law = rw (made, same, placed cmp exact h k g es new b (sym was) law, is)

-- a walk over the keys below an end, seen as the whole
pub any_kept : {X : Type 0} (q p : X → Bool) (xs : List X) → list_any p (filter q xs) ≡ list_any (λ x. q x && p x) xs
any_kept q p [] = refl
any_kept q p (x ∷ xs) = grind (arith, any_kept q p xs)

pub tells_number : (k x : ℕ) → is_eq (nat_cmp k x) ≡ (x == k)
tells_number k x = grind (arith, nat_tests)

pub same_number : (k x : ℕ) → is_eq (nat_cmp k x) ≡ (k == x)
same_number k x = grind (arith, nat_tests)

below_end : (end x : ℕ) → not (is_le (nat_cmp end x)) ≡ ltb x end
below_end end x = grind (arith, nat_tests)

pub any_below : {V : Type 0} (p : V → Bool) (end : ℕ) (es seen kept : List (ℕ × V)) → es ≡ seen → kept ≡ filter (λ (e : ℕ × V). not (is_le (nat_cmp end e.0))) es → list_any (λ (e : ℕ × V). p e.1) kept ≡ list_any (λ (e : ℕ × V). ltb e.0 end && p e.1) seen
any_below {V} p end es seen kept is between =
    ap (list_any (λ (e : ℕ × V). p e.1)) between
    ∙ any_kept (λ (e : ℕ × V). not (is_le (nat_cmp end e.0))) (λ (e : ℕ × V). p e.1) es
    ∙ (λ i. list_any (λ (e : ℕ × V). below_end end e.0 i && p e.1) (is i))

pub and_true : (a b : Bool) → (a || (b && true)) ≡ (a || b)
and_true a b = grind arith

-- pairs of numbers as keys
pub tells_pair : (k x : ℕ × ℕ) → is_eq (pair_cmp k x) ≡ (x.0 == k.0 && x.1 == k.1)
tells_pair k x = tied_then (nat_cmp k.0 x.0) (nat_cmp k.1 x.1) ∙ (λ i. tells_number k.0 x.0 i && tells_number k.1 x.1 i)
