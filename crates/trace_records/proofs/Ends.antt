-- Where the last of a list ends.
use Rattle.std.proofs.Common.{◌≡◌, ℕ, List, [], ◌∷◌, ◌++◌, refl}
use Rattle.trace_records.specs.Fields.{end_of}

-- one more is the last
pub end_of-push : {X : Type 0} (end : X → ℕ) (low : ℕ) (xs : List X) (x : X) → end_of end low (xs ++ x ∷ []) ≡ end x
end_of-push end low [] x = refl
end_of-push end low (y ∷ ys) x = end_of-push end (end y) ys x
