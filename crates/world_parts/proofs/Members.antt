-- Members of lists and of tables.
use Rattle.std.specs.Prelude.{◌≡◌, zero, suc, true, cond, ◌⊎◌, T, List, [], ◌∷◌, ◌++◌, map, Some, refl}
use Rattle.std.specs.List.{Contains, flat_map}
use Rattle.std.specs.Ordering.{eq_by_cmp, is_lt, is_eq}
use Rattle.std.specs.declared.cmp.Ordering.{Ordering}
use Rattle.std.specs.Cmp.{Equal-is, eq_by_cmp_equiv}
use Rattle.std.specs.FinMap.Entries.{find, below_all, is_sorted}
use mathlib.Core.Path.{sym, subst, ap, ◌∙◌}
use mathlib.Core.Logic.{inl, inr}
use native.Mathlib.Omega.{arith}
use Rattle.std.proofs.lemmas.Bool.{cond-false, false_from_ne_true}
use Rattle.finite_maps.specs.Table.{Table, IsKeyOrder, get, insert, get-insert}
use Rattle.world_parts.proofs.Collision.{left, right}
use Rattle.world_parts.proofs.Trees.{some_apart}

-- an element of a list
abbrev pub In : {A : Type 0} → A → List A → Type 0
In x [] = ⊥
In x (y ∷ ys) = (y ≡ x) ⊎ In x ys

pub contained : {A : Type 0} (x : A) (xs : List A) → In x xs → Contains xs x
contained x [] h = absurd h
contained x (y ∷ ys) (inl e) = (0, omega arith, e)
contained x (y ∷ ys) (inr h) = (let c = contained x ys h in (suc c.0, omega (arith, c.1), c.2))

pub element : {A : Type 0} (x : A) (xs : List A) → Contains xs x → In x xs
element x [] c = absurd (omega (arith, c.1))
element x (y ∷ ys) (zero, l, e) = inl e
element x (y ∷ ys) (suc k, l, e) = inr (element x ys (k, omega arith, e))

pub in_left : {A : Type 0} (x : A) (xs ys : List A) → In x xs → In x (xs ++ ys)
in_left x [] ys h = absurd h
in_left x (z ∷ xs) ys (inl e) = inl e
in_left x (z ∷ xs) ys (inr h) = inr (in_left x xs ys h)

pub in_right : {A : Type 0} (x : A) (xs ys : List A) → In x ys → In x (xs ++ ys)
in_right x [] ys h = h
in_right x (z ∷ xs) ys h = inr (in_right x xs ys h)

pub in_either : {A : Type 0} (x : A) (xs ys : List A) → In x (xs ++ ys) → In x xs ⊎ In x ys
in_either x [] ys h = inr h
in_either x (z ∷ xs) ys (inl e) = inl (inl e)
in_either x (z ∷ xs) ys (inr h) = elim (in_either x xs ys h) [ inl a ↦ inl (inr a) | inr b ↦ inr b ]

pub in_flat_map : {A B : Type 0} (f : A → List B) (b : B) (xs : List A) → In b (flat_map f xs) → (a : A) × In a xs × In b (f a)
in_flat_map f b [] h = absurd h
in_flat_map f b (x ∷ xs) h = elim (in_either b (f x) (flat_map f xs) h) [
  | inl p ↦ (x, inl refl, p)
  | inr q ↦ (let r = in_flat_map f b xs q in (r.0, inr r.1, r.2))
]

pub in_flat_map-at : {A B : Type 0} (f : A → List B) (b : B) (a : A) (xs : List A) → In a xs → In b (f a) → In b (flat_map f xs)
in_flat_map-at f b a [] m h = absurd m
in_flat_map-at f b a (x ∷ xs) (inl e) h = in_left b (f x) (flat_map f xs) (subst (λ y. In b (f y)) (sym e) h)
in_flat_map-at f b a (x ∷ xs) (inr m) h = in_right b (f x) (flat_map f xs) (in_flat_map-at f b a xs m h)

pub in_map : {A B : Type 0} (f : A → B) (b : B) (xs : List A) → In b (map f xs) → (a : A) × In a xs × (f a ≡ b)
in_map f b [] h = absurd h
in_map f b (x ∷ xs) (inl e) = (x, inl refl, e)
in_map f b (x ∷ xs) (inr h) = (let r = in_map f b xs h in (r.0, inr r.1, r.2))

pub in_map-at : {A B : Type 0} (f : A → B) (a : A) (xs : List A) → In a xs → In (f a) (map f xs)
in_map-at f a [] h = absurd h
in_map-at f a (x ∷ xs) (inl e) = inl (ap f e)
in_map-at f a (x ∷ xs) (inr h) = inr (in_map-at f a xs h)

not_less : (o : Ordering) → T (is_lt o) → T (is_eq o) → ⊥
not_less o h k = grind arith

ties : {K : Type 0} {R : K → K → Ordering} → IsKeyOrder R → (p q : K) → p ≡ q → eq_by_cmp R p q ≡ true
ties {K} {R} o p q e = subst (λ r. eq_by_cmp R p r ≡ true) e ((eq_by_cmp_equiv o.total).refl p)

module _ {K X : Type 0} {R : K → K → Ordering} (o : IsKeyOrder R) where
  above : (k q : K) (x : X) (es : List (K × X)) → T (below_all R k es) → In (q, x) es → T (is_lt (R k q))
  above k q x [] b h = absurd h
  above k q x (e ∷ es) b (inl s) = subst (λ (y : K × X). T (is_lt (R k y.0))) s (left _ _ b)
  above k q x (e ∷ es) b (inr h) = above k q x es (right _ _ b) h

  found_at : (q : K) (x : X) (es : List (K × X)) → T (is_sorted R es) → In (q, x) es → find R q es ≡ Some x
  found_at q x [] s h = absurd h
  found_at q x (e ∷ es) s (inl h) =
      ap (λ b. cond b (Some e.1) (find R q es)) (ties o q e.0 (sym (ap (λ (y : K × X). y.0) h))) ∙ ap (λ (y : K × X). Some y.1) h
  found_at q x (e ∷ es) s (inr h) =
      let lower : T (is_lt (R e.0 q)) = above e.0 q x es (left _ _ s) h in
      cond-false (eq_by_cmp R q e.0) (Some e.1) (find R q es)
      (false_from_ne_true _ (λ t. not_less (R e.0 q) lower (subst T (sym ((eq_by_cmp_equiv o.total).symm e.0 q ∙ t)) tt))) ∙ found_at q x es (right _ _ s) h

  found_in : (q : K) (x : X) (es : List (K × X)) → find R q es ≡ Some x → In (q, x) es
  found_in q x [] h = absurd (some_apart (sym h))
  found_in q x (e ∷ es) h = grind (arith, o.same q e.0, Equal-is (R q e.0), found_in q x es)

  -- what a table has at a key is among its entries
  pub entry_of : (m : Table R X) (q : K) (x : X) → get m q ≡ Some x → In (q, x) m.entries
  entry_of m q x h = found_in q x m.entries h

  pub get_entry : (m : Table R X) (q : K) (x : X) → In (q, x) m.entries → get m q ≡ Some x
  get_entry m q x h = found_at q x m.entries m.sorted h

  -- what a table has at a key after a value was put at one: that value where the keys are one, else what it had
  pub put_either : (m : Table R X) (k : K) (v : X) (q : K) (x : X) → get (insert o.total m k v) q ≡ Some x → ((k ≡ q) × (v ≡ x)) ⊎ (get m q ≡ Some x)
  put_either m k v q x h = grind (arith, get-insert o.total m k v q, o.same q k, Equal-is (R q k))

  pub put_here : (m : Table R X) (k : K) (v : X) (q : K) → k ≡ q → get (insert o.total m k v) q ≡ Some v
  put_here m k v q e = get-insert o.total m k v q ∙ ap (λ b. cond b (Some v) (get m q)) (ties o q k (sym e))

  pub put_over : (m : Table R X) (k : K) (v : X) (q : K) (x : X) → (k ≡ q → v ≡ x) → get m q ≡ Some x → get (insert o.total m k v) q ≡ Some x
  put_over m k v q x same h = grind (arith, get-insert o.total m k v q, o.same q k, Equal-is (R q k))
