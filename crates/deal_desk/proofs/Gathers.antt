-- Lists are read by place, and the results are read off the slots in order.
use Rattle.std.proofs.Common.{◌≡◌, ℕ, zero, suc, ◌<◌, ◌⊎◌, arith, inl, inr, ⊎_elim, List, [], ◌∷◌, ◌++◌, length, refl, ap, Some}
use Rattle.std.specs.Prelude.{slice_get}
use Rattle.std.proofs.lemmas.Option.{slice_get_cases}
use mathlib.Core.Option.{some}
use lib.ListN.{get_elem?}
use Rattle.deal_desk.specs.declared.job.Slot.{Slot}
use Rattle.deal_desk.specs.declared.job.Slot.TheVariants.{Finished}

pub item_below : {A : Type 0} (xs : List A) (k : ℕ) → k < length xs → (x : A) × (slice_get xs k ≡ Some x)
item_below xs k h = ⊎_elim (λ is. (is.0, is.2)) (λ past. absurd (omega (arith, past.0))) (slice_get_cases xs k).1

pub slice_get_snoc : {A : Type 0} (xs : List A) (x d : A) (k : ℕ) → slice_get (xs ++ x ∷ []) k ≡ Some d → (slice_get xs k ≡ Some d) ⊎ ((k ≡ length xs) × (x ≡ d))
slice_get_snoc [] x d zero e = inr (refl, cc)
slice_get_snoc [] x d (suc k) e = absurd (cc)
slice_get_snoc (y ∷ xs) x d zero e = inl e
slice_get_snoc (y ∷ xs) x d (suc k) e = ⊎_elim (λ h. inl h) (λ h. inr (ap suc h.0, h.1)) (slice_get_snoc xs x d k e)

module _ {T D : Type 0} where
  pub each_more : (xs ys : List D) (x : D) (n : ℕ) (items : List (Slot T D)) → length xs ≡ n
      → ((k : ℕ) (d : D) → slice_get xs k ≡ Some d → get_elem? items k ≡ some (Finished d)) → get_elem? items n ≡ some (Finished x) → ys ≡ xs ++ x ∷ []
      → (k : ℕ) (d : D) → slice_get ys k ≡ Some d → get_elem? items k ≡ some (Finished d)
  each_more xs ys x n items len each last same k d e = elim (slice_get_snoc xs x d k (rw same at e)) [
    | inl h ↦ each k d h
    | inr h ↦ rw (h.0, len, ← h.1) last
  ]
