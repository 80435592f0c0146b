-- Sums over the views of all seats, of which one is looked up by its number.
use Rattle.std.proofs.Common.{◌≡◌, ◌≢◌, ℕ, zero, suc, ◌+◌, ◌<◌, ◌≤◌, List, [], ◌∷◌, get_or, length, set, refl, sym, ap, arith}
use Rattle.std.specs.Prelude.{sum_by}
use Rattle.std.proofs.lemmas.List.Sums.{sum_by-cons, sum_by-set, get_or-le-sum_by}
use mathlib.Core.Option.{some, some-ne-none, some-injective}
use mathlib.Core.Logic.{dite}
use native.Mathlib.Decide.{dec_le}
use lib.ListN.{get_elem?}

module _ {V : Type 0} where
  pub get_elem_within : (vs : List V) (i : ℕ) (v : V) → get_elem? vs i ≡ some v → i < length vs
  get_elem_within [] i v e = absurd (some-ne-none v (sym e))
  get_elem_within (x ∷ vs) zero v e = omega arith
  get_elem_within (x ∷ vs) (suc i) v e = let h = get_elem_within vs i v e in omega arith

  get_or_from_get_elem : (vs : List V) (i : ℕ) (v d : V) → get_elem? vs i ≡ some v → get_or vs i d ≡ v
  get_or_from_get_elem [] i v d e = absurd (some-ne-none v (sym e))
  get_or_from_get_elem (x ∷ vs) zero v d e = some-injective x v e
  get_or_from_get_elem (x ∷ vs) (suc i) v d e = get_or_from_get_elem vs i v d e

  pub sum_by_changed : (f : V → ℕ) (vs : List V) (i : ℕ) (v w : V) → get_elem? vs i ≡ some v → sum_by f (set vs i w) + f v ≡ sum_by f vs + f w
  sum_by_changed f vs i v w e = let was = ap f (get_or_from_get_elem vs i v v e) in let h = sum_by-set f vs i w v (get_elem_within vs i v e) in omega arith

  pub one-le-sum_by : (f : V → ℕ) (vs : List V) (i : ℕ) (v : V) → get_elem? vs i ≡ some v → f v ≤ sum_by f vs
  one-le-sum_by f vs i v e = let is = ap f (get_or_from_get_elem vs i v v e) in let h = get_or-le-sum_by f vs i v (get_elem_within vs i v e) in omega arith

  pub two-le-sum_by : (f : V → ℕ) (vs : List V) (i j : ℕ) (v u : V) → i ≢ j → get_elem? vs i ≡ some v → get_elem? vs j ≡ some u → f v + f u ≤ sum_by f vs
  two-le-sum_by f [] i j v u n e d = absurd (some-ne-none v (sym e))
  two-le-sum_by f (x ∷ vs) zero zero v u n e d = absurd (n refl)
  two-le-sum_by f (x ∷ vs) zero (suc j) v u n e d = omega (arith, sum_by-cons f x vs, ap f (some-injective x v e), one-le-sum_by f vs j u d)
  two-le-sum_by f (x ∷ vs) (suc i) zero v u n e d = omega (arith, sum_by-cons f x vs, ap f (some-injective x u d), one-le-sum_by f vs i v e)
  two-le-sum_by f (x ∷ vs) (suc i) (suc j) v u n e d = let h = two-le-sum_by f vs i j v u (λ p. n (ap suc p)) e d in omega (arith, sum_by-cons f x vs)

  pub sum_by-le-length : (f : V → ℕ) → ((v : V) → f v ≤ 1) → (vs : List V) → sum_by f vs ≤ length vs
  sum_by-le-length f small [] = omega arith
  sum_by-le-length f small (x ∷ vs) = omega (arith, sum_by-cons f x vs, small x, sum_by-le-length f small vs)

  -- a sum above 0 has a term above 0
  pub term_above_zero : (f : V → ℕ) (vs : List V) → 0 < sum_by f vs → (i : ℕ) × (v : V) × (get_elem? vs i ≡ some v) × (0 < f v)
  term_above_zero f [] h = absurd (omega arith)
  term_above_zero f (x ∷ vs) h =
      let parts = sum_by-cons f x vs in
      dite (dec_le 1 (f x)) (λ here. (0, x, refl, omega arith)) (λ no. let r = term_above_zero f vs (omega arith) in (suc r.0, r.1, r.2, r.3))

  -- where f adds up to nothing, so does g, if g is 0 wherever f is
  sum_by_of_none : (f g : V → ℕ) (vs : List V) → sum_by f vs ≡ 0 → ((i : ℕ) (u : V) → get_elem? vs i ≡ some u → f u ≡ 0 → g u ≡ 0) → sum_by g vs ≡ 0
  sum_by_of_none f g vs e h = dite (dec_le 1 (sum_by g vs))
      (λ some_term.
      let t = term_above_zero g vs some_term in
      absurd (omega (arith, h t.0 t.1 t.2 (omega (arith, one-le-sum_by f vs t.0 t.1 t.2)), t.3)))
      (λ no. omega arith)

  -- where f adds up to what it is at one view, so does g, if g is 0 wherever f is
  pub sum_by_of_one : (f g : V → ℕ) (vs : List V) (i : ℕ) (v : V) → get_elem? vs i ≡ some v → sum_by f vs ≡ f v → ((j : ℕ) (u : V) → get_elem? vs j ≡ some u → f u ≡ 0 → g u ≡ 0) → sum_by g vs ≡ g v
  sum_by_of_one f g [] i v e s h = absurd (some-ne-none v (sym e))
  sum_by_of_one f g (x ∷ vs) zero v e s h =
      let here = some-injective x v e in
      let there = sum_by_of_none f g vs (omega (arith, sum_by-cons f x vs, ap f here)) (λ i u at z. h (suc i) u at z) in
      omega (arith, sum_by-cons g x vs, ap g here)
  sum_by_of_one f g (x ∷ vs) (suc i) v e s h =
      let parts = sum_by-cons f x vs in
      let le = one-le-sum_by f vs i v e in
      let there = sum_by_of_one f g vs i v e (omega arith) (λ j u at z. h (suc j) u at z) in
      omega (arith, sum_by-cons g x vs, h 0 x refl (omega arith))
