-- What stands before the last slash of a path.
use Rattle.std.proofs.Common.{◌≡◌, ℕ, true, eqb, List, [], ◌∷◌, ◌++◌, refl, ◌∙◌}
use Rattle.std.proofs.lemmas.Grind.{common_steps}
use Rattle.std.proofs.lemmas.List.Folds.{list_any-append}
use Rattle.std.proofs.lemmas.Bool.{ne_eqb}
use Rattle.trace_format.specs.Paths.{parent_of, has_slash}
use mathlib.Core.Bool.{or-true, or-false}

pub parent_of-slash : (bytes : List ℕ) → parent_of (bytes ++ 47 ∷ []) ≡ bytes
parent_of-slash [] = refl
parent_of-slash (c ∷ cs) =
    let there : has_slash (cs ++ 47 ∷ []) ≡ true = list_any-append (λ b. eqb b 47) cs (47 ∷ []) ∙ or-true (has_slash cs) in
    rw (there, parent_of-slash cs) refl

pub parent_of-other : (bytes : List ℕ) (b : ℕ) → (b ≡ 47 → ⊥) → parent_of (bytes ++ b ∷ []) ≡ parent_of bytes
parent_of-other [] b ne = refl
parent_of-other (c ∷ cs) b ne =
    let same : has_slash (cs ++ b ∷ []) ≡ has_slash cs = list_any-append (λ x. eqb x 47) cs (b ∷ []) ∙ rw (ne_eqb b 47 ne) (or-false (has_slash cs)) in
    rw (same, parent_of-other cs b ne) refl

-- one byte more of a path
pub ruleset one_byte_more = (common_steps, parent_of-slash, parent_of-other)
