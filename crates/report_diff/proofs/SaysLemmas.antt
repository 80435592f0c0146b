-- A line whose subject no other line has, taken out of a text: what says otherwise stays.
use Rattle.std.proofs.Common.{◌≡◌, ℕ, ◌+◌, true, false, List, [], ◌∷◌, ◌++◌, length, Option, None, Some, inl, inr, refl}
use Rattle.std.proofs.Common.{arith, rules, append_assoc, length-append}
use Rattle.std.specs.Str.{bytes_eq}
use Rattle.std.proofs.lemmas.Bool.{cases_Bool}
use Rattle.std.proofs.lemmas.List.{append-nil}
use Rattle.std.proofs.lemmas.Slice.Eq.{bytes_eq-Decides}
use Rattle.report_diff.specs.Lines.{first_behind, line_about, subject}
use Rattle.report_diff.specs.Merging.{further}
use Rattle.report_diff.specs.Repeats.{otherwise, says_otherwise}
use Rattle.report_diff.proofs.FirstLemmas.{behind, none_more}
use Rattle.report_diff.proofs.Apart.{about_other, off}

-- whether a line says otherwise, without a line of another subject before it
pub says_same : (front back : List (List ℕ)) (b line : List ℕ) → bytes_eq (subject b) (subject line) ≡ false
    → says_otherwise (front ++ b ∷ back) line ≡ says_otherwise (front ++ back) line
unfolding says_otherwise
says_same front back b line other = rw (about_other (subject line) front back b other) refl

-- a line that has another subject, in both directions
other_subject : (b line : List ℕ) (more : List (List ℕ)) → off (subject b) (line ∷ more) ≡ true → bytes_eq (subject b) (subject line) ≡ false
other_subject b line more none = grind (arith, none, (bytes_eq-Decides (subject b) (subject line)).0, (bytes_eq-Decides (subject line) (subject b)).1)

off_more : (b line : List ℕ) (more : List (List ℕ)) → off (subject b) (line ∷ more) ≡ true → off (subject b) more ≡ true
off_more b line more none = grind (arith, none)

longer : (front back : List (List ℕ)) (b : List ℕ) → length (front ++ b ∷ back) ≡ length (front ++ back) + 1
longer front back b = omega (arith, length-append front (b ∷ back), length-append front back)

-- behind such a line the rest says otherwise where it did, a line further down
pub says_behind : (text front back : List (List ℕ)) (b : List ℕ) → off (subject b) text ≡ true
    → first_behind says_otherwise (front ++ b ∷ back) text ≡ further 1 (first_behind says_otherwise (front ++ back) text)
says_behind [] front back b none = refl
says_behind (line ∷ more) front back b none =
    let same = says_same front back b line (other_subject b line more none) in
    elim (cases_Bool (says_otherwise (front ++ back) line)) [
      | inl says ↦ rw (same, says, longer front back b) refl
      | inr silent ↦ rw (same, silent, append_assoc front (b ∷ back) (line ∷ []), append_assoc front back (line ∷ []))
          (says_behind more front (back ++ line ∷ []) b (off_more b line more none))
    ]

-- a line whose subject no earlier line has says nothing otherwise
first_says_nothing : (front : List (List ℕ)) (b : List ℕ) → line_about front (subject b) ≡ None → says_otherwise front b ≡ false
unfolding says_otherwise
first_says_nothing front b none = rw none (search rules)

-- so a text says otherwise what it says without the line
pub says_without : (front text : List (List ℕ)) (b : List ℕ) → otherwise front ≡ None → line_about front (subject b) ≡ None → off (subject b) text ≡ true
    → otherwise (front ++ b ∷ text) ≡ further 1 (otherwise (front ++ text))
unfolding otherwise
says_without front text b nothing first none =
    rw (
      behind says_otherwise [] front (b ∷ text) nothing,
      first_says_nothing front b first,
      says_behind text front [] b none,
      append-nil front,
      behind says_otherwise [] front text nothing,
    ) refl

pub says_nothing_more : (front : List (List ℕ)) (b : List ℕ) → otherwise front ≡ None → line_about front (subject b) ≡ None
    → otherwise (front ++ b ∷ []) ≡ None
unfolding otherwise
says_nothing_more front b nothing first = none_more says_otherwise front b nothing (first_says_nothing front b first)

-- further down, and further again
pub further_twice : (m n : ℕ) (x : Option (ℕ × List ℕ)) → further m (further n x) ≡ further (n + m) x
further_twice m n None = refl
further_twice m n (Some said) = let sum : (said.0 + n) + m ≡ said.0 + (n + m) = omega arith in rw sum refl

pub further_none : (x : Option (ℕ × List ℕ)) → further 0 x ≡ x
further_none None = refl
further_none (Some said) = let sum : said.0 + 0 ≡ said.0 = omega arith in rw sum refl
