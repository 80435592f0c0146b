-- The first line that a test finds, after one line more.
use Rattle.std.proofs.Common.{◌≡◌, ℕ, ◌+◌, Bool, true, false, List, [], ◌∷◌, ◌++◌, length, None, Some, inl, inr, refl, ◌∙◌, append_assoc}
use Rattle.std.proofs.lemmas.Bool.{cases_Bool}
use Rattle.std.proofs.lemmas.List.{append-nil}
use Rattle.report_diff.specs.Lines.{first_behind, subject}

-- behind lines of which it finds none
pub behind : (test : List (List ℕ) → List ℕ → Bool) (earlier xs ys : List (List ℕ)) → first_behind test earlier xs ≡ None
    → first_behind test earlier (xs ++ ys) ≡ first_behind test (earlier ++ xs) ys
behind test earlier [] ys none = rw append-nil refl
behind test earlier (x ∷ xs) ys none = elim (cases_Bool (test earlier x)) [
  | inl finds ↦ (let never : Some (length earlier + 1, subject x) ≡ None = rw finds at none in cc)
  | inr not ↦ rw (not, behind test (earlier ++ x ∷ []) xs ys (rw not at none), append_assoc) refl
]

pub none_more : (test : List (List ℕ) → List ℕ → Bool) (text : List (List ℕ)) (line : List ℕ) → first_behind test [] text ≡ None → test text line ≡ false
    → first_behind test [] (text ++ line ∷ []) ≡ None
none_more test text line none not = behind test [] text (line ∷ []) none ∙ rw not refl

pub first_found : (test : List (List ℕ) → List ℕ → Bool) (text more : List (List ℕ)) (line : List ℕ) → first_behind test [] text ≡ None → test text line ≡ true
    → first_behind test [] (text ++ line ∷ more) ≡ Some (length text + 1, subject line)
first_found test text more line none finds = behind test [] text (line ∷ more) none ∙ rw finds refl

-- the same behind earlier lines
pub none_on : (test : List (List ℕ) → List ℕ → Bool) (earlier text : List (List ℕ)) (line : List ℕ) → first_behind test earlier text ≡ None
    → test (earlier ++ text) line ≡ false → first_behind test earlier (text ++ line ∷ []) ≡ None
none_on test earlier text line none not = behind test earlier text (line ∷ []) none ∙ rw not refl

pub found_on : (test : List (List ℕ) → List ℕ → Bool) (earlier text more : List (List ℕ)) (line : List ℕ) → first_behind test earlier text ≡ None
    → test (earlier ++ text) line ≡ true → first_behind test earlier (text ++ line ∷ more) ≡ Some (length (earlier ++ text) + 1, subject line)
found_on test earlier text more line none finds = behind test earlier text (line ∷ more) none ∙ rw finds refl
