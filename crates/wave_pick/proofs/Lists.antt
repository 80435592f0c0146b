-- Lists that are read and written place by place.
use Rattle.std.proofs.Common.{◌≡◌, ◌≢◌, ℕ, zero, suc, ◌<◌, Bool, true, false, List, [], ◌∷◌, ◌++◌, length, ◌⊎◌, inl, inr, ⊎_elim, refl, sym, ap, subst, ◌∙◌, arith, Some}
use Rattle.std.specs.Prelude.{slice_get}
use Rattle.std.proofs.Math.ListN.{set}
use Rattle.std.proofs.Math.Seq.{lt-length-set}
use Rattle.std.proofs.lemmas.List.{get_or-set_same}
use Rattle.std.proofs.lemmas.Option.{slice_get-get_or, slice_get_cases}
use Rattle.interleaving.specs.Machine.{has}
use Rattle.interleaving.proofs.Members.{has-cases, has-here, has-later}

-- A test doesn't both pass and fail.
pub not_both : {Y : Type 0} {b : Bool} → b ≡ true → b ≡ false → Y
not_both d e = let both : true ≡ false = sym d ∙ e in (cc)

module _ {X : Type 0} where
  pub get-some : (xs : List X) (k : ℕ) → k < length xs → (x : X) × (slice_get xs k ≡ Some x)
  get-some xs k lt = ⊎_elim (λ is. (is.0, is.2)) (λ past. absurd (omega (arith, past.0))) (slice_get_cases xs k).1

  -- one element more
  pub get-push : (xs : List X) (x r : X) (k : ℕ) → slice_get (xs ++ x ∷ []) k ≡ Some r → (slice_get xs k ≡ Some r) ⊎ (x ≡ r)
  get-push [] x r zero e = inr (cc)
  get-push [] x r (suc k) e = (cc)
  get-push (y ∷ xs) x r zero e = inl e
  get-push (y ∷ xs) x r (suc k) e = get-push xs x r k e

  -- a write at one place
  pub set-here : (xs : List X) (k : ℕ) (x : X) → k < length xs → slice_get (set xs k x) k ≡ Some x
  set-here xs k x lt = slice_get-get_or (set xs k x) k x (lt-length-set xs k x lt) ∙ ap (λ y. Some y) (get_or-set_same xs k x x lt)

  pub set-other : (xs : List X) (k j : ℕ) (x : X) → j ≢ k → slice_get (set xs k x) j ≡ slice_get xs j
  set-other [] k j x ne = refl
  set-other (y ∷ xs) zero zero x ne = absurd (ne refl)
  set-other (y ∷ xs) zero (suc j) x ne = refl
  set-other (y ∷ xs) (suc k) zero x ne = refl
  set-other (y ∷ xs) (suc k) (suc j) x ne = set-other xs k j x (λ e. ne (ap suc e))

-- Where something holds of each number of a list, or another fact does, it holds of all or the other fact does.
pub all_or : (A : Type 0) (P : ℕ → Type 0) (is : List ℕ) → ((i : ℕ) → has is i ≡ true → A ⊎ P i) → A ⊎ ((i : ℕ) → has is i ≡ true → P i)
all_or A P [] each = inr (λ i e. (cc))
all_or A P (x ∷ is) each = ⊎_elim inl (λ here.
    ⊎_elim inl (λ later. inr (λ i e. ⊎_elim (λ same. subst P (sym same) here) (λ l. later i l) (has-cases i x is e)))
    (all_or A P is (λ i e. each i (has-later i x is e)))) (each x (has-here x is))
