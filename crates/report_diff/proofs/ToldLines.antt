-- What is found is told in lines, each with a line feed behind it.
use Rattle.std.proofs.Common.{◌≡◌, ◌++◌, ◌∷◌, ℕ, List, [], Option, None, Some, inl, inr, refl, sym, ◌∙◌, append-nil}
use Rattle.std.specs.List.{flat_map}
use Rattle.std.proofs.lemmas.Bool.{cases_Bool}
use Rattle.std.proofs.lemmas.Grind.{flat_map-append}
use Rattle.report_diff.specs.declared.lines.Section.{Section}
use Rattle.report_diff.specs.declared.telling.Outcome.{Outcome}
use Rattle.report_diff.specs.declared.telling.Outcome.TheVariants.{Equal, Different, Unchecked, Given}
use Rattle.report_diff.specs.Differences.{Found, found_beside, found_in_first, found_lacking, found_text, has_section, lone_outcome, lone_text, minus, of_first, pair_outcome, pair_text, plus, tilde, told}
use Rattle.report_diff.specs.Lines.{line_about, line_kind, section_of, subject}
use Rattle.report_diff.specs.Merging.{text_of}

abbrev pub AreLines : List ℕ → Type 0
AreLines text = (all : List (List ℕ)) × (text ≡ text_of all)

none : AreLines []
none = ([], refl)

one : (sign : ℕ) (line : List ℕ) → AreLines (told sign line)
one sign line = ((sign ∷ 32 ∷ line) ∷ [], sym (append-nil (told sign line)))

both : (a b : List ℕ) → AreLines a → AreLines b → AreLines (a ++ b)
both a b (first, is) (second, its) = (first ++ second, rw (is, its) (sym (flat_map-append (λ (line : List ℕ). line ++ 10 ∷ []) first second)))

of_pair : (outcome : Outcome) (line other : List ℕ) → AreLines (pair_text outcome line other)
of_pair Equal line other = none
of_pair Different line other = both (told minus line) (told plus other) (one minus line) (one plus other)
of_pair Unchecked line other = one tilde other
of_pair Given line other = none

of_lone : (outcome : Outcome) (sign : ℕ) (line : List ℕ) → AreLines (lone_text outcome sign line)
of_lone Equal sign line = none
of_lone Different sign line = one sign line
of_lone Unchecked sign line = one tilde line
of_lone Given sign line = none

of_lacking : (sign : ℕ) (text : List (List ℕ)) (section : Section) (line : List ℕ) → AreLines (found_text (found_lacking None sign text section line))
unfolding found_lacking
of_lacking sign text section line = elim (cases_Bool (has_section text section)) [
  | inl has ↦ rw has (both (lone_text (lone_outcome None line) sign line) [] (of_lone (lone_outcome None line) sign line) none)
  | inr lacks ↦ rw lacks none
]

of_beside : (second : List (List ℕ)) (section : Section) (line : List ℕ) (other : Option (List ℕ)) → AreLines (found_text (found_beside None second section line other))
of_beside second section line None = of_lacking minus second section line
of_beside second section line (Some other) = both (pair_text (pair_outcome line other) line other) [] (of_pair (pair_outcome line other) line other) none

of_section : (second : List (List ℕ)) (line : List ℕ) (section : Option Section) → AreLines (found_text (found_in_first None second line section))
of_section second line None = none
of_section second line (Some section) = of_beside second section line (line_about second (subject line))

of_line : (second : List (List ℕ)) (line : List ℕ) → AreLines (found_text (of_first None second line))
unfolding of_first
of_line second line = of_section second line (section_of (line_kind line))

pub first_told : (second first : List (List ℕ)) → AreLines (found_text (flat_map (of_first None second) first))
first_told second [] = none
first_told second (line ∷ more) =
    let all = both (found_text (of_first None second line)) (found_text (flat_map (of_first None second) more)) (of_line second line) (first_told second more) in
    (all.0, flat_map-append (λ (f : Found). f.text) (of_first None second line) (flat_map (of_first None second) more) ∙ all.1)
