-- The model: two reports, in one text or in two.
use Rattle.std.specs.Prelude.{◌≡◌, ⊤, ℕ, ◌+◌, ◌-◌, ◌++◌, ◌&&◌, Bool, true, false, not, max, length, List, [], ◌∷◌, take, drop, codes, Option, None, Some, if◌then◌else◌}
use Rattle.std.specs.List.{list_any, before_first, after_first, position_or_len, take_while}
use Rattle.std.specs.Option.{option_map, option_or}
use Rattle.std.specs.Str.{bytes_eq}
use Rattle.report_diff.specs.declared.comparing.Comparison.{Comparison}
use Rattle.report_diff.specs.declared.comparing.Terms.{Terms}
use Rattle.report_diff.specs.declared.comparing.DiffFault.{DiffFault}
use Rattle.report_diff.specs.declared.comparing.DiffFault.TheVariants.{Memory, Refused}
use Rattle.report_diff.specs.declared.refusal.Refusal.{Refusal}
use Rattle.report_diff.specs.declared.refusal.Side.{Side}
use Rattle.report_diff.specs.declared.refusal.Side.TheVariants.{First, Second}
use Rattle.report_diff.specs.declared.refusal.Flaw.TheVariants.{Heading, End, GoesOn}
use Rattle.report_diff.specs.declared.version.Version.{Version}
use Rattle.report_diff.specs.declared.version.Version.TheVariants.{One, Two}
use Rattle.report_diff.specs.Lines.{line_kind, lines}
use Rattle.report_diff.specs.Refusals.{flaw_text, order_text, otherwise_text, refusal_text, shown_subject, versions_text}
use Rattle.report_diff.specs.Places.{first_fall, is_entry, line_place}
use Rattle.report_diff.specs.Repeats.{otherwise}
use Rattle.report_diff.specs.Differences.{Ends, Found, findings, found, passes, text_of_found}

abbrev pub is_end : List ℕ → Bool
is_end line = bytes_eq line (codes "end")

-- The version of the report that a text begins with, by its heading.
abbrev pub version_in : List ℕ → Option Version
version_in line = if bytes_eq line (codes "uring-report 1") then Some One else if bytes_eq line (codes "uring-report 2") then Some Two else None

abbrev pub version_of : List (List ℕ) → Option Version
version_of [] = None
version_of (line ∷ more) = version_in line

-- Whether nothing stands behind a line but its line feed.
abbrev pub is_nothing : List (List ℕ) → Bool
is_nothing [] = true
is_nothing (line ∷ []) = bytes_eq line []
is_nothing _ = false

-- The report of a text goes to its first line `end`.
unfoldable pub report_in : List (List ℕ) → List (List ℕ)
report_in text = before_first is_end text

-- What is wrong with the order of a report: in version 2 the places of the entries rise.
abbrev pub order_of : Side → Version → List (List ℕ) → Option (List ℕ)
order_of side One report = None
order_of side Two report = option_map (λ found. order_text side found.0 (shown_subject found.1)) (first_fall report)

-- What is wrong with the form of a text: its heading lacks, or its end, or it goes on behind that, or its lines have another order.
abbrev pub flaw_behind : Side → List (List ℕ) → Option Version → Option (List ℕ)
flaw_behind side text None = Some (flaw_text side Heading)
flaw_behind side text (Some version) =
    if not (list_any is_end text) then Some (flaw_text side End)
    else if not (is_nothing (after_first is_end text)) then Some (flaw_text side GoesOn)
    else order_of side version (report_in text)

unfoldable pub flaw_of : Side → List (List ℕ) → Option (List ℕ)
flaw_of side text = flaw_behind side text (version_of text)

-- Two reports of different versions are not compared.
abbrev pub versions_flaw : Option Version → Option Version → Option (List ℕ)
versions_flaw (Some One) (Some Two) = Some (versions_text One Two)
versions_flaw (Some Two) (Some One) = Some (versions_text Two One)
versions_flaw _ _ = None

-- What is wrong with what a report says: a line says otherwise of its subject than an earlier one.
abbrev pub otherwise_of : Side → List (List ℕ) → Option (List ℕ)
otherwise_of side report = option_map (λ found. otherwise_text side found.0 (shown_subject found.1)) (otherwise report)

-- The lines of a text that end in a line feed.
abbrev pub whole : List (List ℕ) → List (List ℕ)
whole text = take (length text - 1) text

-- A report of version 2 may be cut off, where that is asked for: it has no line `end`.
abbrev pub is_two : Option Version → Bool
is_two (Some Two) = true
is_two (Some One) = false
is_two None = false

unfoldable pub is_cut : Terms → List (List ℕ) → Bool
is_cut terms text = terms.truncated && (not (list_any is_end text) && is_two (version_of (whole text)))

-- It is taken to end behind its last whole line of an entry that comes ahead of any other line.
abbrev pub entries_in : List (List ℕ) → List (List ℕ)
entries_in text = take_while (λ line. is_entry (line_kind line)) (whole text)

unfoldable pub closed : List (List ℕ) → List (List ℕ)
closed text = take 1 text ++ (entries_in (drop 1 text) ++ codes "end" ∷ [])

unfoldable pub taken_as : Terms → List (List ℕ) → List (List ℕ)
taken_as terms text = if is_cut terms text then closed text else text

-- The place behind all entries of a text.
abbrev pub place_end : Option ℕ → ℕ
place_end None = 0
place_end (Some place) = place + 1

unfoldable pub entries_end : List (List ℕ) → ℕ
entries_end [] = 0
entries_end (line ∷ more) = max (place_end (line_place line)) (entries_end more)

-- Where one of two reports was cut off, the entries of either may end before those of the other.
abbrev pub ends_of : (cut : Bool) → List (List ℕ) → List (List ℕ) → Ends
ends_of false first second = record { first = None; second = None }
ends_of true first second = record { first = Some (entries_end first); second = Some (entries_end second) }

-- Why the lines of two texts are not two reports of one version: the form of one, their versions, or else what one says.
unfoldable pub refusal_of_texts : List (List ℕ) → List (List ℕ) → Option (List ℕ)
refusal_of_texts first second =
    option_or (flaw_of First first) (option_or (flaw_of Second second) (option_or (versions_flaw (version_of first) (version_of second))
    (option_or (otherwise_of First (report_in first)) (otherwise_of Second (report_in second)))))

-- What is found of the reports of two texts, the second of which may be cut off.
unfoldable pub found_of_texts : (cut : Bool) → List (List ℕ) → List (List ℕ) → List Found
found_of_texts cut first second = found (ends_of cut (report_in first) (report_in second)) (report_in first) (report_in second)

-- How two texts compare: the second as it is taken.
unfoldable pub refusal_of : Terms → List (List ℕ) → List (List ℕ) → Option (List ℕ)
refusal_of terms first second = refusal_of_texts first (taken_as terms second)

unfoldable pub found_of : Terms → List (List ℕ) → List (List ℕ) → List Found
found_of terms first second = found_of_texts (is_cut terms second) first (taken_as terms second)

unfoldable pub differences_of : Terms → List (List ℕ) → List (List ℕ) → List ℕ
differences_of terms first second = text_of_found (found_of terms first second)

unfoldable pub passes_of : Terms → List (List ℕ) → List (List ℕ) → Bool
passes_of terms first second = passes terms.strict (findings (found_of terms first second))

-- The lines of two texts are two reports of one version, and this is how they compare.
pub record ComparesLines (terms : Terms) (first second : List (List ℕ)) (comparison : Comparison) : Type 0 where
  pub reports : refusal_of terms first second ≡ None
  pub text : comparison.text.items ≡ differences_of terms first second
  pub passes : comparison.passes ≡ passes_of terms first second

-- The same of a second text that is taken as it is, and may be cut off.
pub record ComparesTexts (strict cut : Bool) (first second : List (List ℕ)) (comparison : Comparison) : Type 0 where
  pub reports : refusal_of_texts first second ≡ None
  pub text : comparison.text.items ≡ text_of_found (found_of_texts cut first second)
  pub passes : comparison.passes ≡ passes strict (findings (found_of_texts cut first second))

-- What a fault tells of them: they are not two reports, for this reason. Memory may always run out.
abbrev pub TellsOfTexts : List (List ℕ) → List (List ℕ) → DiffFault → Type 0
TellsOfTexts first second (Refused why) = refusal_of_texts first second ≡ Some (refusal_text why)
TellsOfTexts first second Memory = ⊤

abbrev pub TellsOfLines : Terms → List (List ℕ) → List (List ℕ) → DiffFault → Type 0
TellsOfLines terms first second (Refused why) = refusal_of terms first second ≡ Some (refusal_text why)
TellsOfLines terms first second Memory = ⊤

-- The same of one text alone.
abbrev pub TellsFlaw : Side → List (List ℕ) → DiffFault → Type 0
TellsFlaw side text (Refused why) = flaw_of side text ≡ Some (refusal_text why)
TellsFlaw side text Memory = ⊤

abbrev pub TellsVersions : List (List ℕ) → List (List ℕ) → Refusal → Type 0
TellsVersions first second why = versions_flaw (version_of first) (version_of second) ≡ Some (refusal_text why)

abbrev pub TellsOrder : Side → Version → List (List ℕ) → Refusal → Type 0
TellsOrder side version report why = order_of side version report ≡ Some (refusal_text why)

abbrev pub TellsOtherwise : Side → List (List ℕ) → DiffFault → Type 0
TellsOtherwise side report (Refused why) = otherwise_of side report ≡ Some (refusal_text why)
TellsOtherwise side report Memory = ⊤

-- An input of both texts: the first goes to its first line `end`, and the second is the rest.
abbrev pub first_text : List ℕ → List (List ℕ)
first_text input = take (position_or_len is_end (lines input) + 1) (lines input)

abbrev pub second_text : List ℕ → List (List ℕ)
second_text input = drop (position_or_len is_end (lines input) + 1) (lines input)

abbrev pub refusal : Terms → List ℕ → Option (List ℕ)
refusal terms input = refusal_of terms (first_text input) (second_text input)

abbrev pub differences_in : Terms → List ℕ → List ℕ
differences_in terms input = differences_of terms (first_text input) (second_text input)

abbrev pub passes_in : Terms → List ℕ → Bool
passes_in terms input = passes_of terms (first_text input) (second_text input)

abbrev pub Compares : Terms → List ℕ → Comparison → Type 0
Compares terms input comparison = ComparesLines terms (first_text input) (second_text input) comparison

abbrev pub TellsOfInput : Terms → List ℕ → DiffFault → Type 0
TellsOfInput terms input fault = TellsOfLines terms (first_text input) (second_text input) fault

-- Two texts that are given apart.
abbrev pub refusal_of_two : Terms → List ℕ → List ℕ → Option (List ℕ)
refusal_of_two terms first second = refusal_of terms (lines first) (lines second)

abbrev pub differences_of_two : Terms → List ℕ → List ℕ → List ℕ
differences_of_two terms first second = differences_of terms (lines first) (lines second)

abbrev pub passes_of_two : Terms → List ℕ → List ℕ → Bool
passes_of_two terms first second = passes_of terms (lines first) (lines second)

abbrev pub ComparesTwo : Terms → List ℕ → List ℕ → Comparison → Type 0
ComparesTwo terms first second comparison = ComparesLines terms (lines first) (lines second) comparison

abbrev pub TellsOfTwo : Terms → List ℕ → List ℕ → DiffFault → Type 0
TellsOfTwo terms first second fault = TellsOfLines terms (lines first) (lines second) fault
