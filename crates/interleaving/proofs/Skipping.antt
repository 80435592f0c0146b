-- Stepping the places below a bound, some left out.
use Rattle.std.proofs.Common.{◌≡◌, ℕ, zero, suc, ◌<◌, Bool, true, false, List, [], ◌∷◌, ◌⊎◌, inl, inr, refl, ◌∙◌, arith}
use Rattle.std.specs.List.{AllByRecursion}
use Rattle.std.proofs.lemmas.Bool.{cases_Bool}
use Rattle.interleaving.specs.System.{System, stepped, reaches, is_clear, NoneWrites, Thinner}
use Rattle.interleaving.specs.Laws.{Laws}

pub below_suc : (k n : ℕ) → k < suc n → (k < n) ⊎ (k ≡ n)
below_suc k n h = grind arith

module _ (m : System) where
  open m use {World, Footprint, step, foot, reach, collide}

  pub reaches-out : (out : ℕ → Bool) (s : World) (n : ℕ) → out n ≡ true → reaches m out s (suc n) ≡ reaches m out s n
  reaches-out out s n e = rw e

  pub reaches-in : (out : ℕ → Bool) (s : World) (n : ℕ) → out n ≡ false
      → reaches m out s (suc n) ≡ reach n s (reaches m out s n) ∷ reaches m out s n
  reaches-in out s n e = rw e

  -- only the places below the bound count
  pub stepped-same : (out out₁ : ℕ → Bool) (s : World) (n : ℕ) → ((k : ℕ) → k < n → out k ≡ out₁ k) → stepped m out s n ≡ stepped m out₁ s n
  stepped-same out out₁ s zero h = refl
  stepped-same out out₁ s (suc n) h = rw (h n (omega arith), stepped-same out out₁ s n (λ k lt. h k (omega arith)))

  -- where all are left out, nothing changes
  pub stepped-none : (s : World) (n : ℕ) → stepped m (λ k. true) s n ≡ s
  stepped-none s zero = refl
  stepped-none s (suc n) = stepped-none s n

  -- where all are left out below the bound, there is nothing to reach
  pub reaches-none : (done : ℕ → Bool) (s : m.World) (n : ℕ) → ((k : ℕ) → k < n → done k ≡ true) → reaches m done s n ≡ []
  reaches-none done s zero all = refl
  reaches-none done s (suc n) all = reaches-out done s n (all n (omega arith)) ∙ reaches-none done s n (λ k lt. all k (omega arith))

  -- what is clear of a list is clear of each of it
  pub clear-tail : (f r : Footprint) (rs : List Footprint) → is_clear m f (r ∷ rs) ≡ true → (collide f r ≡ false) × (is_clear m f rs ≡ true)
  clear-tail f r rs h = grind arith

  pub clear-cons : (f r : Footprint) (rs : List Footprint) → collide f r ≡ false → is_clear m f rs ≡ true → is_clear m f (r ∷ rs) ≡ true
  clear-cons f r rs e h = rw e h

  -- what all the may-access sets have, the may-access set of each place has that isn't left out
  pub each-of : (P : Footprint → Type 0) (out : ℕ → Bool) (s : World) (n : ℕ) → AllByRecursion P (reaches m out s n)
      → (k : ℕ) → k < n → out k ≡ false → P (reach k s (reaches m out s k))
  each-of P out s zero h k lt o = absurd (omega arith)
  each-of P out s (suc n) h k lt o = elim (cases_Bool (out n)) [
    | inl e ↦ each-of P out s n (rw (reaches-out out s n e) at h) k (grind arith) o
    | inr e ↦ elim (below_suc k n lt) [
      | inl less ↦ each-of P out s n ((rw (reaches-in out s n e) at h).1) k less o
      | inr same ↦ rw same ((rw (reaches-in out s n e) at h).0)
    ]
  ]

  each-clear : (f : Footprint) (rs : List Footprint) → is_clear m f rs ≡ true → AllByRecursion (λ r. collide f r ≡ false) rs
  each-clear f [] h = tt
  each-clear f (r ∷ rs) h = let parts = clear-tail f r rs h in (parts.0, each-clear f rs parts.1)

  -- what is clear of the may-access sets is clear of the may-access set of each place that isn't left out
  pub clear-of : (f : Footprint) (out : ℕ → Bool) (s : World) (n : ℕ) → is_clear m f (reaches m out s n) ≡ true
      → (k : ℕ) → k < n → out k ≡ false → collide f (reach k s (reaches m out s k)) ≡ false
  clear-of f out s n h = each-of (λ r. collide f r ≡ false) out s n (each-clear f (reaches m out s n) h)

  -- what no may-access set of the list writes, no may-access set of these places writes
  pub unwritten-of : (a : m.Atom) (out : ℕ → Bool) (s : World) (n : ℕ) → NoneWrites m (reaches m out s n) a
      → (k : ℕ) → k < n → out k ≡ false → m.writes (reach k s (reaches m out s k)) a ≡ false
  unwritten-of a out s n h = each-of (λ r. m.writes r a ≡ false) out s n h

  pub thinner-refl : (rs : List Footprint) → Thinner m rs rs
  thinner-refl [] = Thinner.none
  thinner-refl (r ∷ rs) = Thinner.keep r r rs rs ((λ a t. t), (λ a w. w)) (thinner-refl rs)

  -- what is clear of a list is clear of a thinner one
  pub clear-thinner : Laws m → (f : Footprint) (rs thin : List Footprint) → Thinner m thin rs → is_clear m f rs ≡ true → is_clear m f thin ≡ true
  clear-thinner laws f rs thin Thinner.none h = h
  clear-thinner laws f rs thin (Thinner.drop r thin₁ rs₁ t) h = clear-thinner laws f rs₁ thin₁ t ((clear-tail f r rs₁ h).1)
  clear-thinner laws f rs thin (Thinner.keep r₁ r thin₁ rs₁ holds t) h =
      let parts = clear-tail f r rs₁ h in
      clear-cons f r₁ thin₁ (laws.collide_held f r r₁ holds parts.0) (clear-thinner laws f rs₁ thin₁ t parts.1)
