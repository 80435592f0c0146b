-- The model: what a text says of one subject in more than one line. At the end, a view of code: the lines of a text by their subjects.
use Rattle.std.specs.Prelude.{ℕ, ◌≡◌, Bool, false, not, ◌&&◌, is_some, List, [], ◌∷◌, ◌++◌, Option, None, Some, if◌then◌else◌}
use Rattle.std.specs.List.{list_all, list_any}
use Rattle.std.specs.Str.{bytes_eq}
use Rattle.report_diff.specs.declared.index.Index.{Index}
use Rattle.report_diff.specs.Lines.{Knows, facts, first_behind, line_about, line_kind, section_of, subject, texts}

-- Two lines have the same facts where each fact of one is a fact of the other.
abbrev pub all_among : List (List ℕ) → List (List ℕ) → Bool
all_among facts others = list_all (λ fact. list_any (bytes_eq fact) others) facts

unfoldable pub have_same_facts : List ℕ → List ℕ → Bool
have_same_facts one other = all_among (facts one) (facts other) && all_among (facts other) (facts one)

-- Whether a line has other facts than an earlier one, where there is one.
abbrev pub differs_from : List ℕ → Option (List ℕ) → Bool
differs_from line None = false
differs_from line (Some earlier) = not (have_same_facts earlier line)

-- Whether a line behind some earlier ones says otherwise of its subject than the first of them about it. Headings may be repeated.
unfoldable pub says_otherwise : List (List ℕ) → List ℕ → Bool
says_otherwise earlier line = is_some (section_of (line_kind line)) && differs_from line (line_about earlier (subject line))

-- The first line that says otherwise of its subject than an earlier one.
unfoldable pub otherwise : List (List ℕ) → Option (ℕ × List ℕ)
otherwise text = first_behind says_otherwise [] text

-- The lines of a text without those whose subject an earlier one has.
abbrev pub if_new : List (List ℕ) → List ℕ → List (List ℕ)
if_new earlier line = if is_some (line_about earlier (subject line)) then [] else line ∷ []

abbrev pub once_behind : List (List ℕ) → List (List ℕ) → List (List ℕ)
once_behind earlier [] = []
once_behind earlier (line ∷ more) = if_new earlier line ++ once_behind (earlier ++ line ∷ []) more

unfoldable pub once : List (List ℕ) → List (List ℕ)
once text = once_behind [] text

-- The index of a text finds the first line about a subject, and lists each of these lines.
pub record IsIndex (index : Index) (text : List (List ℕ)) : Type 0 where
  pub known : Knows index.known text
  pub once : texts index.lines.items ≡ once text
