-- What a text says of one subject in more than one line, after one line more.
use Rattle.std.proofs.Common.{◌≡◌, ℕ, Bool, true, false, not, List, [], ◌∷◌, ◌++◌, refl, sym, ap, ◌∙◌, arith, append_assoc}
use Rattle.std.specs.Prelude.{is_some}
use Rattle.std.proofs.lemmas.List.{append-nil}
use Rattle.report_diff.specs.Lines.{line_about, subject}
use Rattle.report_diff.specs.Repeats.{if_new, once, once_behind}

pub once_behind-append : (earlier xs ys : List (List ℕ)) → once_behind earlier (xs ++ ys) ≡ once_behind earlier xs ++ once_behind (earlier ++ xs) ys
once_behind-append earlier [] ys = rw append-nil refl
once_behind-append earlier (x ∷ xs) ys =
    ap (λ rest. if_new earlier x ++ rest) (once_behind-append (earlier ++ x ∷ []) xs ys)
    ∙ rw append_assoc (sym (append_assoc (if_new earlier x) (once_behind (earlier ++ x ∷ []) xs) (once_behind (earlier ++ x ∷ xs) ys)))

pub once_more : (text : List (List ℕ)) (line : List ℕ) → once (text ++ line ∷ []) ≡ once text ++ if_new text line
unfolding once
once_more text line = once_behind-append [] text (line ∷ []) ∙ ap (λ rest. once_behind [] text ++ rest) (append-nil (if_new text line))

-- a line whose subject an earlier one has is passed over, and any other is not
pub once_known : (text : List (List ℕ)) (line : List ℕ) → is_some (line_about text (subject line)) ≡ true → once (text ++ line ∷ []) ≡ once text
once_known text line known = once_more text line ∙ rw known (append-nil (once text))

pub once_new : (text : List (List ℕ)) (line : List ℕ) → is_some (line_about text (subject line)) ≡ false → once (text ++ line ∷ []) ≡ once text ++ line ∷ []
once_new text line new = once_more text line ∙ rw new refl

-- what a test says of a line
pub says_same : (other : Bool) → true ≡ not other → other ≡ false
says_same other e = grind (arith, e)

pub says_other : (other : Bool) → false ≡ not other → other ≡ true
says_other other e = grind (arith, e)
