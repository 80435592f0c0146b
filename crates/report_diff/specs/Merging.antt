-- The model: the entries that come first in two reports of version 2, and what is found of them before the reports end. At the end, a view of code: such entries, compared as they come.
use Rattle.std.specs.Prelude.{ℕ, ◌≡◌, ◌+◌, ◌-◌, ◌≤◌, ◌==◌, ◌&&◌, ◌⊎◌, ⊤, Bool, true, false, not, nat_le, List, [], ◌∷◌, ◌++◌, length, take, drop, codes, Option, None, Some, if◌then◌else◌}
use Rattle.std.specs.List.{flat_map, list_all, list_any, take_while}
use Rattle.std.specs.Option.{option_map}
use Rattle.report_diff.specs.declared.comparing.Comparison.{Comparison}
use Rattle.report_diff.specs.declared.comparing.Terms.{Terms}
use Rattle.report_diff.specs.declared.comparing.DiffFault.{DiffFault}
use Rattle.report_diff.specs.declared.comparing.DiffFault.TheVariants.{Memory, Refused}
use Rattle.report_diff.specs.declared.fronts.Merging.{Merging}
use Rattle.report_diff.specs.declared.fronts.Offer.{Offer}
use Rattle.report_diff.specs.declared.fronts.Offer.TheVariants.{Taken, Second, Ended}
use Rattle.report_diff.specs.declared.index.Index.{Index}
use Rattle.report_diff.specs.declared.passed.Passed.{Passed}
use Rattle.report_diff.specs.declared.telling.Told.{Told}
use Rattle.report_diff.specs.declared.version.Version.{Version}
use Rattle.report_diff.specs.declared.version.Version.TheVariants.{One, Two}
use Rattle.report_diff.specs.Differences.{AreCounts, Ends, Found, findings, found, found_text, of_first, passes, text_of_found}
use Rattle.report_diff.specs.Inputs.{differences_of, entries_in, is_end, passes_of, refusal_of, version_of, whole}
use Rattle.report_diff.specs.declared.refusal.Side.{Side}
use Rattle.report_diff.specs.Lines.{first_behind, line_kind, lines}
use Rattle.report_diff.specs.Refusals.{order_text, otherwise_text, refusal_text, shown_subject}
use Rattle.report_diff.specs.Places.{RisesFrom, falls, first_fall, is_entry, line_place, rises}
use Rattle.report_diff.specs.Repeats.{otherwise}

-- Whether a line behind some others is of an entry whose place is above theirs.
abbrev pub goes_on : List (List ℕ) → List ℕ → Bool
goes_on earlier line = is_entry (line_kind line) && rises earlier (line_place line)

-- The entries that come first behind some lines, as long as their places rise.
unfoldable pub front_behind : List (List ℕ) → List (List ℕ) → List (List ℕ)
front_behind earlier [] = []
front_behind earlier (line ∷ more) = if goes_on earlier line then line ∷ front_behind (earlier ++ line ∷ []) more else []

-- The front of a text: in version 2 the entries behind its heading.
abbrev pub front_in : Option Version → List (List ℕ) → List (List ℕ)
front_in (Some Two) text = front_behind (take 1 text) (drop 1 text)
front_in (Some One) text = []
front_in None text = []

abbrev pub front : List (List ℕ) → List (List ℕ)
front text = front_in (version_of text) text

-- The lines of a text that end in a line feed.
abbrev pub whole_lines : List ℕ → List (List ℕ)
whole_lines text = whole (lines text)

-- A front reaches an entry where it has one of the same place or a later one.
abbrev pub is_not_below : Option ℕ → Option ℕ → Bool
is_not_below (Some place) (Some other) = nat_le place other
is_not_below _ _ = false

unfoldable pub reaches : List (List ℕ) → List ℕ → Bool
reaches others line = list_any (λ other. is_not_below (line_place line) (line_place other)) others

-- What is found early of two fronts: of the entries of the first that the second reaches.
unfoldable pub early : List (List ℕ) → List (List ℕ) → List Found
early first second = flat_map (of_first None second) (take_while (reaches second) first)

-- What is told early of two texts, which need not end.
unfoldable pub early_text_of_two : List ℕ → List ℕ → List ℕ
early_text_of_two first second = found_text (early (front (whole_lines first)) (front (whole_lines second)))

-- A view of code: how many lines were passed, and from where on places rise behind them. None is out of order, and none is an end.
pub record IsPassed (passed : Passed) (text : List (List ℕ)) : Type 0 where
  pub lines : passed.lines ≡ length text
  pub rises : RisesFrom passed.next text
  pub orderly : first_fall text ≡ None
  pub unended : list_any is_end text ≡ false

abbrev pub heading : List ℕ
heading = codes "uring-report 2"

-- A line that is no entry, or one whose place is not below this.
abbrev pub is_place_from : ℕ → Option ℕ → Bool
is_place_from next None = false
is_place_from next (Some place) = nat_le next place

unfoldable pub is_from : ℕ → List ℕ → Bool
is_from next line = if is_entry (line_kind line) then is_place_from next (line_place line) else true

-- An entry whose place is below this.
abbrev pub is_place_below : ℕ → Option ℕ → Bool
is_place_below next None = false
is_place_below next (Some place) = not (nat_le next place)

unfoldable pub is_below : ℕ → List ℕ → Bool
is_below next line = is_entry (line_kind line) && is_place_below next (line_place line)

-- What says otherwise in a text says so in a longer one, so many lines further down.
abbrev pub further : ℕ → Option (ℕ × List ℕ) → Option (ℕ × List ℕ)
further skipped = option_map (λ said. (said.0 + skipped, said.1))

-- A line feed. A text of lines, each with one behind it.
abbrev pub is_feed : ℕ → Bool
is_feed b = b == 10

abbrev pub text_of : List (List ℕ) → List ℕ
text_of all = flat_map (λ line. line ++ 10 ∷ []) all

-- What is wrong with the order of lines behind others: in version 2 their places rise.
abbrev pub order_behind : Side → Version → List (List ℕ) → List (List ℕ) → Option (List ℕ)
order_behind side One earlier report = None
order_behind side Two earlier report = option_map (λ found. order_text side found.0 (shown_subject found.1)) (first_behind falls earlier report)

-- The line that is ahead of the first report, if one is.
abbrev pub ahead_lines : Option ℕ → List ℕ → List (List ℕ)
ahead_lines None line = []
ahead_lines (Some place) line = line ∷ []

-- What is known of it: it is the last of the second that was passed, and those before it are below it and below what may come of the first. Where none is, so are all that were passed.
pub record IsAhead (place : ℕ) (line : List ℕ) (next from : ℕ) (second kept : List (List ℕ)) : Type 0 where
  pub entry : is_entry (line_kind line) ≡ true
  pub place_is : line_place line ≡ Some place
  pub next_is : next ≡ place + 1
  pub front : List (List ℕ)
  pub last : second ≡ front ++ line ∷ []
  pub below : list_all (is_below place) front ≡ true
  pub front_below : list_all (is_below from) front ≡ true
  pub kept_below : list_all (is_below place) kept ≡ true
  pub unbroken : list_any is_feed line ≡ false

abbrev pub Ahead : Option ℕ → List ℕ → (next from : ℕ) → List (List ℕ) → List (List ℕ) → Type 0
Ahead None line next from second kept = next ≤ from
Ahead (Some place) line next from second kept = IsAhead place line next from second kept

-- Where the entries of the second end, if one of the two was cut off: none of those that were passed stands there or behind.
abbrev pub Covers : ℕ → Option ℕ → Type 0
Covers next None = ⊤
Covers next (Some end) = next ≤ end

-- The entries of two reports that were passed behind their headings, and the text that was taken of what was found.
pub record Merges (m : Merging) (first second : List (List ℕ)) (taken : List ℕ) : Type 0 where
  pub kept : List (List ℕ)
  pub is_first : IsPassed m.first (heading ∷ first)
  pub is_second : IsPassed m.second (heading ∷ second)
  pub front_first : (more : List (List ℕ)) → front_behind (heading ∷ []) (first ++ more) ≡ first ++ front_behind (heading ∷ first) more
  pub front_second : (more : List (List ℕ)) → front_behind (heading ∷ []) (second ++ more) ≡ second ++ front_behind (heading ∷ second) more
  pub kept_text : m.kept.items ≡ text_of (heading ∷ kept)
  pub kept_whole : list_any (list_any is_feed) kept ≡ false
  pub kept_says : otherwise (heading ∷ kept) ≡ None
  pub kept_below : list_all (is_below m.from) kept ≡ true
  pub from : m.first.next ≤ m.from
  pub kept_passed : list_all (is_below m.second.next) kept ≡ true
  pub ahead : Ahead m.ahead m.line.items m.second.next m.from second kept
  pub text : found_text (flat_map (of_first None second) first) ≡ taken ++ m.told.text.items
  pub counts : AreCounts (findings (flat_map (of_first None second) first)) m.told.counts
  pub reached : list_all (reaches second) first ≡ true
  pub below_first : list_all (is_below m.second.next) first ≡ true
  pub below_second : list_all (is_below m.second.next) second ≡ true
  pub finds : (ends : Ends) → Covers m.second.next ends.second → (more back : List (List ℕ)) → list_all (is_from m.from) more ≡ true
      → list_all (is_from m.second.next) back ≡ true → found ends (heading ∷ first ++ more) (heading ∷ second ++ back)
      ≡ flat_map (of_first None second) first ++ found ends (heading ∷ more) (heading ∷ kept ++ (ahead_lines m.ahead m.line.items ++ back))
  pub says_first : (more : List (List ℕ)) → list_all (is_from m.from) more ≡ true
      → otherwise (heading ∷ first ++ more) ≡ further (length first) (otherwise (heading ∷ more))
  pub says_second : (back : List (List ℕ)) → list_all (is_from m.second.next) back ≡ true
      → otherwise (heading ∷ second ++ back) ≡ further m.gone (otherwise (heading ∷ kept ++ (ahead_lines m.ahead m.line.items ++ back)))

-- How many lines of both were passed.
abbrev pub passed_lines : Merging → ℕ
passed_lines m = m.first.lines + m.second.lines

-- The next line of the first report is known to be from there on, if anything is known of it.
pub record IsAwaited (from : ℕ) (line : List ℕ) : Type 0 where
  pub place : ℕ
  pub entry : is_entry (line_kind line) ≡ true
  pub place_is : line_place line ≡ Some place
  pub from_is : from ≤ place

abbrev pub Awaits : Merging → List ℕ → Type 0
Awaits m line = (m.from ≡ m.first.next) ⊎ IsAwaited m.from line

-- What became of the next line of the first report: it was taken, or a line of the second comes before it, or it does not go on.
abbrev pub Offers : Offer → Merging → (first second : List (List ℕ)) → (taken line : List ℕ) → Type 0
Offers Taken m first second taken line = Merges m (first ++ line ∷ []) second taken × (m.from ≡ m.first.next)
Offers Second m first second taken line = Merges m first second taken × IsAwaited m.from line × (m.ahead ≡ None)
Offers Ended m first second taken line = Merges m first second taken × (goes_on (heading ∷ first) line ≡ false)

-- The same of the second report: whether its line was taken.
abbrev pub Follows : Bool → Merging → (first second : List (List ℕ)) → (taken line : List ℕ) → Type 0
Follows true m first second taken line = Merges m first (second ++ line ∷ []) taken
Follows false m first second taken line = Merges m first second taken × (goes_on (heading ∷ second) line ≡ false)

-- What is awaited of the lines that are left of the first report.
abbrev pub AwaitsText : Merging → List (List ℕ) → Type 0
AwaitsText m rest = (m.from ≡ m.first.next) ⊎ ((line : List ℕ) × (more : List (List ℕ)) × (rest ≡ line ∷ more) × IsAwaited m.from line)

-- All lines of two reports: they are two of one version, and this is how they compare, behind what was taken.
pub record ComparesBehind (terms : Terms) (taken : List ℕ) (first second : List (List ℕ)) (comparison : Comparison) : Type 0 where
  pub reports : refusal_of terms first second ≡ None
  pub text : taken ++ comparison.text.items ≡ differences_of terms first second
  pub passes : comparison.passes ≡ passes_of terms first second

-- The next line of the first report, and its place.
pub record IsNext (m : Merging) (line : List ℕ) (place : ℕ) : Type 0 where
  pub entry : is_entry (line_kind line) ≡ true
  pub place_is : line_place line ≡ Some place
  pub next : m.first.next ≤ place
  pub from : m.from ≤ place

-- What is wrong with what lines say, so many of which were taken out before them.
abbrev pub said_behind : Side → ℕ → List (List ℕ) → Option (List ℕ)
said_behind side skipped report = option_map (λ found. otherwise_text side found.0 (shown_subject found.1)) (further skipped (otherwise report))

abbrev pub TellsSaid : Side → ℕ → List (List ℕ) → DiffFault → Type 0
TellsSaid side skipped report (Refused why) = said_behind side skipped report ≡ Some (refusal_text why)
TellsSaid side skipped report Memory = ⊤

-- What was found is told but for a text that was taken.
pub record HoldsBehind (taken : List ℕ) (all : Told) (founds : List Found) : Type 0 where
  pub counts : AreCounts (findings founds) all.counts
  pub text : found_text founds ≡ taken ++ all.text.items

-- The text of all that was found, behind what was taken of it.
pub record ComparesFound (strict : Bool) (taken : List ℕ) (founds : List Found) (comparison : Comparison) : Type 0 where
  pub text : taken ++ comparison.text.items ≡ text_of_found founds
  pub passes : comparison.passes ≡ passes strict (findings founds)

-- Where the entries of two indexed reports end.
abbrev pub ends_at : Index → Index → Ends
ends_at first second = record { first = first.end; second = second.end }

-- What is left of the second text, with the end that it is taken to have where it was cut off.
abbrev pub taken_rest : (cut : Bool) → List (List ℕ) → List (List ℕ)
taken_rest false rest = rest
taken_rest true rest = entries_in rest ++ codes "end" ∷ []
