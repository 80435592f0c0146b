-- The last byte of a path, and its components.
use Rattle.std.proofs.Common.{◌≡◌, ℕ, suc, ◌-◌, ◌<◌, not, List, [], ◌∷◌, length, ◌==◌, get_or, Option, Some, refl, ◌∙◌, arith}
use Rattle.std.specs.Prelude.{unwrap_or}
use Rattle.std.specs.List.{list_any, last_or}
use Rattle.std.specs.Prelude.{filter}
use Rattle.std.proofs.lemmas.Bool.Decides.{nat_tests}
use Rattle.trace_records.specs.Opens.{is_dots}

pub last_at : (o : Option ℕ) (xs : List ℕ) → 0 < length xs → unwrap_or (last_or o xs) 0 ≡ get_or xs (length xs - 1) 0
last_at o [] lt = absurd (omega arith)
last_at o (x ∷ []) lt = refl
last_at o (x ∷ y ∷ ys) lt =
    let e : length (x ∷ y ∷ ys) - 1 ≡ suc (length (y ∷ ys) - 1) = omega arith in
    last_at (Some x) (y ∷ ys) (omega arith) ∙ rw e refl

-- Empty runs are no dots.
pub dots-filtered : (runs : List (List ℕ)) → list_any is_dots (filter (λ run. not (length run == 0)) runs) ≡ list_any is_dots runs
dots-filtered [] = refl
dots-filtered ([] ∷ runs) = dots-filtered runs
dots-filtered ((b ∷ bs) ∷ runs) = grind (arith, nat_tests, dots-filtered runs)
