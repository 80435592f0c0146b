-- The model: a map with some of its keys alone, and whether a map has a value of some kind.
use Rattle.std.specs.Prelude.{◌≡◌, Bool, true, false, cond, ◌&&◌, ◌||◌, T, List, [], ◌∷◌, Option, Some, None, is_some, refl}
use Rattle.std.specs.FinMap.Entries.{find, where_key, below_all, is_sorted, is_sorted-where_key, find-where_key}
use Rattle.std.specs.List.{list_any}
use Rattle.std.specs.Ordering.{eq_by_cmp, is_eq, is_lt}
use Rattle.std.specs.Cmp.{tied_itself}
use Rattle.std.specs.declared.cmp.Ordering.{Ordering}
use Rattle.std.specs.declared.cmp.Ordering.TheVariants.{Less, Equal, Greater}
use Rattle.std.specs.Option.{unwrap_or}
use mathlib.Core.Path.{sym, ap, subst, ◌∙◌}
use Rattle.finite_maps.specs.Table.{Table, IsKeyOrder, get}

either_is : (a b : Bool) → T b → T (a || b)
either_is true b h = tt
either_is false b h = h

one_is : (a b : Bool) → T a → T (a || b)
one_is true b h = tt
one_is false b h = absurd h

found_value : {K X : Type 0} (R : K → K → Ordering) (p : X → Bool) (k : K) (x : X) (es : List (K × X)) → find R k es ≡ Some x → T (p x) → T (list_any (λ (e : K × X). p e.1) es)
found_value {X = X} R p k x [] is h = absurd (subst (λ (o : Option X). T (is_some o)) (sym is) tt)
found_value {K} {X} R p k x (e ∷ es) is h = by (eq_by_cmp R k e.0) (λ rest. found_value R p k x es rest h) is
  where
    by : (b : Bool) → (find R k es ≡ Some x → T (list_any (λ (f : K × X). p f.1) es)) → cond b (Some e.1) (find R k es) ≡ Some x → T (p e.1 || list_any (λ (e : K × X). p e.1) es)
    by true later same = one_is _ _ (subst (λ y. T (p y)) (sym (ap (λ o. unwrap_or o x) same)) h)
    by false later rest = either_is _ _ (later rest)

first_is : (a b : Bool) → T (a && b) → T a
first_is true b h = tt
first_is false b h = absurd h

second_is : (a b : Bool) → T (a && b) → T b
second_is true b h = h
second_is false b h = absurd h

tie : (r : Ordering) → is_eq r ≡ true → r ≡ Equal
tie Less h = absurd (subst T (sym h) tt)
tie Equal h = refl
tie Greater h = absurd (subst T (sym h) tt)

-- A key below all others isn't among them.
below_none : {K X : Type 0} (R : K → K → Ordering) (k : K) (es : List (K × X)) → T (below_all R k es) → find R k es ≡ None
below_none R k [] h = refl
below_none {K} {X} R k (e ∷ es) h = by (below_none R k es) (R k e.0) h
  where
    by : (T (below_all R k es) → find R k es ≡ None) → (r : Ordering) → T (is_lt r && below_all R k es) → cond (is_eq r) (Some e.1) (find R k es) ≡ None
    by later Less h = later h
    by later Equal h = absurd h
    by later Greater h = absurd h

-- What is found behind an entry is found with it.
found_behind : {K X : Type 0} {R : K → K → Ordering} → IsKeyOrder R → (e : K × X) (es : List (K × X)) (k : K) (x : X) → T (below_all R e.0 es) → find R k es ≡ Some x → find R k (e ∷ es) ≡ Some x
found_behind {K} {X} {R} o e es k x below is = by (eq_by_cmp R k e.0) refl
  where
    by : (b : Bool) → eq_by_cmp R k e.0 ≡ b → cond b (Some e.1) (find R k es) ≡ Some x
    by true same =
        let none : find R k es ≡ None = below_none R k es (subst (λ q. T (below_all R q es)) (sym (o.same k e.0 (tie (R k e.0) same))) below) in
        absurd (subst (λ (r : Option X). T (is_some r)) (sym is ∙ none) tt)
    by false other = is

found_entry : {K X : Type 0} {R : K → K → Ordering} → IsKeyOrder R → (p : X → Bool) (es : List (K × X)) → T (is_sorted R es) → T (list_any (λ (e : K × X). p e.1) es) → (k : K) × (x : X) × (find R k es ≡ Some x) × T (p x)
found_entry o p [] s h = absurd h
found_entry {K} {X} {R} o p (e ∷ es) s h = by (found_entry o p es (second_is _ _ s)) (p e.1) refl h
  where
    by : (T (list_any (λ (f : K × X). p f.1) es) → (k : K) × (x : X) × (find R k es ≡ Some x) × T (p x)) → (b : Bool) → p e.1 ≡ b → T (b || list_any (λ (f : K × X). p f.1) es)
        → (k : K) × (x : X) × (find R k (e ∷ es) ≡ Some x) × T (p x)
    by later true is h = (e.0, e.1, ap (λ r. cond (is_eq r) (Some e.1) (find R e.0 es)) (tied_itself o.total e.0), subst T (sym is) tt)
    by later false is h = let g = later h in (g.0, g.1, found_behind o e es g.0 g.1 (first_is _ _ s) g.2, g.3)

module _ {K X : Type 0} {R : K → K → Ordering} where
  -- The map with the keys alone for which a test holds.
  abbrev pub only : (K → Bool) → Table R X → Table R X
  only p m = record { entries = where_key R p m.entries; sorted = is_sorted-where_key R p m.entries m.sorted }

  -- Whether a map has a value for which a test holds.
  abbrev pub has_value : (X → Bool) → Table R X → Bool
  has_value p m = list_any (λ e. p e.1) m.entries

  -- Tests that answer alike keep the same keys, and find a value alike.
  pub only-alike : (p q : K → Bool) (m : Table R X) → ((k : K) → p k ≡ q k) → only p m ≡ only q m
  only-alike p q m h = ap (λ (t : K → Bool). only t m) (λ i k. h k i)

  pub has_value-alike : (p q : X → Bool) (m : Table R X) → ((x : X) → p x ≡ q x) → has_value p m ≡ has_value q m
  has_value-alike p q m h = ap (λ (t : X → Bool). has_value t m) (λ i x. h x i)

  pub get-only : IsKeyOrder R → (p : K → Bool) (m : Table R X) (k : K) → get (only p m) k ≡ cond (p k) (get m k) None
  get-only o p m k = find-where_key R p k (λ x t. ap p (sym (o.same k x t))) m.entries

  -- A value that a look-up finds is one of those that a map has.
  pub has_value-get : (p : X → Bool) (m : Table R X) (k : K) (x : X) → get m k ≡ Some x → T (p x) → T (has_value p m)
  has_value-get p m k x is h = found_value R p k x m.entries is h

  -- And each of those is found by a look-up.
  pub get-has_value : IsKeyOrder R → (p : X → Bool) (m : Table R X) → T (has_value p m) → (k : K) × (x : X) × (get m k ≡ Some x) × T (p x)
  get-has_value o p m h = found_entry o p m.entries m.sorted h
