-- What a list has at a place, with others behind it or without its last.
use Rattle.std.proofs.Common.{◌≡◌, ℕ, ◌≢◌, zero, suc, List, [], ◌∷◌, ◌++◌, Some, refl, ap}
use Rattle.std.specs.Prelude.{length, slice_get}

-- what was added
pub added_last : {X : Type 0} (xs : List X) (y : X) → slice_get (xs ++ y ∷ []) (length xs) ≡ Some y
added_last [] y = refl
added_last (x ∷ xs) y = added_last xs y

-- all but what was added
pub added_others : {X : Type 0} (xs : List X) (y : X) (j : ℕ) → j ≢ length xs → slice_get (xs ++ y ∷ []) j ≡ slice_get xs j
added_others [] y zero ne = absurd (ne refl)
added_others [] y (suc j) ne = refl
added_others (x ∷ xs) y zero ne = refl
added_others (x ∷ xs) y (suc j) ne = added_others xs y j (λ e. ne (ap suc e))
