-- Listed paths that rise: they do with one behind them, and are the entries of the map that has them.
use Rattle.std.specs.Prelude.{◌≡◌, ℕ, zero, suc, ◌-◌, Bool, IsTrue, T, List, [], ◌∷◌, ◌++◌, map, length, Option, Some, None, refl}
use Rattle.std.specs.List.{slice_get}
use Rattle.std.specs.List.Sorted.{IsPermutation}
use Rattle.std.specs.Ordering.{is_lt, nat_cmp}
use Rattle.std.specs.Cmp.{IsTotalOrder}
use Rattle.std.specs.Cmp.Lexicographic.{slice_cmp}
use Rattle.std.specs.FinMap.Entries.{below_all, is_sorted}
use Rattle.std.specs.declared.cmp.Ordering.{Ordering}
use Rattle.std.specs.declared.cmp.Ordering.TheVariants.{Less}
use Rattle.std.proofs.lemmas.List.{map-append}
use Rattle.std.proofs.lemmas.List.Sorted.{Contains-permutation, IsPermutation-sym}
use mathlib.Core.Path.{sym, ap, ◌∙◌}
use mathlib.Core.Logic.{inl, inr}
use native.Mathlib.Omega.{arith}
use Rattle.finite_maps.specs.Table.{Table, empty, get, text_keys, same_table}
use Rattle.file_tree.specs.Tree.{Tree, size}
use Rattle.world_parts.specs.Image.{by_path, name_entry}
use Rattle.world_parts.specs.Pending.{paths_listed, Rise}
use Rattle.world_parts.specs.declared.image.NameEntry.{NameEntry}
use Rattle.world_parts.proofs.Collision.{both, left, right}
use Rattle.world_parts.proofs.Trees.{some_apart}
use Rattle.world_parts.proofs.Members.{In, contained, element, get_entry, entry_of}
use Rattle.world_parts.proofs.Listed.{from_by_path, in_by_path}

less : (r : Ordering) → T (is_lt r) → r ≡ Less
less r h = grind arith

lower : (r : Ordering) → r ≡ Less → T (is_lt r)
lower r h = grind arith

module _ {K X E : Type 0} {R : K → K → Ordering} (o : IsTotalOrder R) (f : E → K × X) where
  below_one_more : (k : K) (es : List E) (n : ℕ) (l : E) (x : K × X) → length es ≡ suc n → slice_get es n ≡ Some l → R (f l).0 x.0 ≡ Less → T (below_all R k (map f es)) → T (below_all R k (map f es ++ x ∷ []))
  below_one_more k [] n l x e h lt b = absurd (omega (arith, e))
  below_one_more k (g ∷ []) zero l x e h lt b =
      let here : T (is_lt (R k (f g).0)) = left _ _ b in
      let last : R (f g).0 x.0 ≡ Less = grind arith in
      both _ _ here (both _ _ (lower _ (o.trans k (f g).0 x.0 (less _ here) last)) tt)
  below_one_more k (g ∷ []) (suc n) l x e h lt b = absurd (omega (arith, e))
  below_one_more k (g ∷ next ∷ es) zero l x e h lt b = absurd (omega (arith, e))
  below_one_more k (g ∷ next ∷ es) (suc n) l x e h lt b = both _ _ (left _ _ b) (below_one_more k (next ∷ es) n l x (omega (arith, e)) h lt (right _ _ b))

  -- entries that rise, and one more behind the last of them
  pub one_more : (es : List E) (n : ℕ) (l : E) (x : K × X) → length es ≡ suc n → slice_get es n ≡ Some l → R (f l).0 x.0 ≡ Less → T (is_sorted R (map f es)) → T (is_sorted R (map f es ++ x ∷ []))
  one_more [] n l x e h lt s = absurd (omega (arith, e))
  one_more (g ∷ []) zero l x e h lt s =
      let last : R (f g).0 x.0 ≡ Less = grind arith in
      both _ _ (both _ _ (lower _ last) tt) tt
  one_more (g ∷ []) (suc n) l x e h lt s = absurd (omega (arith, e))
  one_more (g ∷ next ∷ es) zero l x e h lt s = absurd (omega (arith, e))
  one_more (g ∷ next ∷ es) (suc n) l x e h lt s =
      both _ _ (below_one_more (f g).0 (next ∷ es) n l x (omega (arith, e)) h lt (left _ _ s)) (one_more (next ∷ es) n l x (omega (arith, e)) h lt (right _ _ s))

-- a path behind the last one that is listed
pub rising : (es : List NameEntry) (n : ℕ) (l : NameEntry) (path : List ℕ) (node : ℕ) → n ≡ length es - 1 → slice_get es n ≡ Some l → slice_cmp nat_cmp l.path path ≡ Less → Rise (paths_listed es) → Rise (paths_listed es ++ (path, node) ∷ [])
rising [] n l path node e h lt s = absurd (some_apart (sym h))
rising (g ∷ es) n l path node e h lt s = one_more text_keys.total (λ (e : NameEntry). (e.path, e.node)) (g ∷ es) n l (path, node) (omega (arith, e)) h lt s

pub told_less : (b : Bool) (r : Ordering) → b ≡ is_lt r → IsTrue b → r ≡ Less
told_less b r e h = grind arith

module _ (es fs : List (List ℕ × ℕ)) (rise : Rise fs) (all : IsPermutation es fs) where
  abbrev map_of : Table (slice_cmp nat_cmp) ℕ
  map_of = record { entries = fs; sorted = rise }

  there : (q : List ℕ) (i : ℕ) → In (q, i) es → get map_of q ≡ Some i
  there q i h = get_entry text_keys map_of q i (element (q, i) fs (Contains-permutation es fs (q, i) all (contained (q, i) es h)))

  back : (q : List ℕ) (i : ℕ) → get map_of q ≡ Some i → In (q, i) es
  back q i h = element (q, i) es (Contains-permutation fs es (q, i) (IsPermutation-sym es fs all) (contained (q, i) fs (entry_of text_keys map_of q i h)))

  same : (q : List ℕ) (r : Option ℕ) → get map_of q ≡ r → get (by_path empty es) q ≡ r
  same q None h = none (get (by_path empty es) q) refl
    where
      none : (r : Option ℕ) → get (by_path empty es) q ≡ r → get (by_path empty es) q ≡ None
      none None e = e
      none (Some i) e = elim (from_by_path empty es q i e) [ inl k ↦ absurd (some_apart (sym (there q i k) ∙ h)) | inr k ↦ absurd (some_apart (sym k)) ]
  same q (Some i) h = in_by_path empty es q i (λ j k. one j (sym (there q j k) ∙ h)) (inl (back q i h))
    where
      one : (j : ℕ) → Some j ≡ Some i → j ≡ i
      one j e = cc

  -- paths in their order are the entries of a map that has them
  pub in_order : (by_path empty es).entries ≡ fs
  in_order = ap (λ (m : Table (slice_cmp nat_cmp) ℕ). m.entries) (same_table text_keys (by_path empty es) map_of (λ q. same q (get map_of q) refl))

-- entries that list paths, and one more
pub entries_more : (tree : Tree) (es new : List NameEntry) (e : NameEntry) → new ≡ es ++ e ∷ [] → e.size ≡ size tree e.node → es ≡ map (name_entry tree) (paths_listed es) → new ≡ map (name_entry tree) (paths_listed new)
entries_more tree es new e n s inv =
    let entry : NameEntry → List ℕ × ℕ = λ (e : NameEntry). (e.path, e.node) in
    let one : e ≡ name_entry tree (e.path, e.node) = λ i. record { path = e.path; node = e.node; size = s i } in
    n ∙ (λ i. inv i ++ one i ∷ []) ∙ sym (map-append (name_entry tree) (paths_listed es) ((e.path, e.node) ∷ [])) ∙ ap (map (name_entry tree)) (sym (map-append entry es (e ∷ []))) ∙ ap (λ l. map (name_entry tree) (paths_listed l)) (sym n)

-- the paths that they list
pub listed_one_more : (es new : List NameEntry) (e : NameEntry) (path : List ℕ) → new ≡ es ++ e ∷ [] → e.path ≡ path → paths_listed new ≡ paths_listed es ++ (path, e.node) ∷ []
listed_one_more es new e path n p =
    ap paths_listed n ∙ map-append (λ (e : NameEntry). (e.path, e.node)) es (e ∷ []) ∙ ap (λ q. paths_listed es ++ (q, e.node) ∷ []) p
