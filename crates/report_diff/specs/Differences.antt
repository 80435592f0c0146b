-- The model: two reports, compared line by line.
use Rattle.std.specs.Prelude.{◌≡◌, ℕ, ◌==◌, nat_eq, nat_le, Bool, true, false, not, ◌&&◌, ◌||◌, List}
use Rattle.std.specs.Prelude.{[], ◌∷◌, ◌++◌, map, codes, Option, None, Some, is_some, if◌then◌else◌}
use Rattle.std.specs.List.{ends_with, flat_map, list_all, list_any, count_by}
use Rattle.std.specs.Fmt.{decimal}
use Rattle.std.specs.Str.{bytes_eq}
use Rattle.report_diff.specs.declared.lines.Section.{Section}
use Rattle.report_diff.specs.declared.lines.Section.TheVariants.{Entries, Tree, Slots, Buffers}
use Rattle.report_diff.specs.declared.telling.Outcome.{Outcome}
use Rattle.report_diff.specs.declared.telling.Outcome.TheVariants.{Equal, Different, Unchecked, Given}
use Rattle.report_diff.specs.declared.telling.Finding.{Finding}
use Rattle.report_diff.specs.declared.telling.Told.{Told}
use Rattle.report_diff.specs.declared.counting.Counts.{Counts}
use Rattle.report_diff.specs.declared.counting.Tally.{Tally}
use Rattle.report_diff.specs.Lines.{fact_name, facts, line_about, line_kind, section_of, subject}
use Rattle.report_diff.specs.Places.{line_place}
use Rattle.report_diff.specs.Repeats.{once}

-- Whether some facts have one of a name.
abbrev pub has_name : List ℕ → List (List ℕ) → Bool
has_name name facts = list_any (λ fact. bytes_eq name (fact_name fact)) facts

-- Whether a fact is one of the others, or none of them has its name.
unfoldable pub fits : List (List ℕ) → List ℕ → Bool
fits others fact = list_any (bytes_eq fact) others || not (has_name (fact_name fact) others)

-- Two lines agree where the facts of each fit the other's.
unfoldable pub agree : List ℕ → List ℕ → Bool
agree one other = list_all (fits (facts other)) (facts one) && list_all (fits (facts one)) (facts other)

-- Whether a line has a fact, and one of a name.
abbrev pub has_fact : List ℕ → List ℕ → Bool
has_fact fact line = list_any (bytes_eq fact) (facts line)

abbrev pub has_named : List ℕ → List ℕ → Bool
has_named name line = has_name name (facts line)

-- A line is unchecked where it has a fact named `unchecked`, or its result was not seen.
unfoldable pub is_unchecked : List ℕ → Bool
is_unchecked line = has_named (codes "unchecked") line || has_fact (codes "completion=unseen") line

-- The result of an entry is copied from the trace.
abbrev pub is_given : List ℕ → Bool
is_given line = has_fact (codes "given=1") line

-- How two lines of one subject compare.
unfoldable pub pair_outcome : List ℕ → List ℕ → Outcome
pair_outcome one other =
    if is_unchecked one || is_unchecked other then Unchecked
    else if not (agree one other) then Different
    else if is_given one || is_given other then Given else Equal

-- The entries of a text may end before those of the other, where one was cut off: nothing is known of the places from there on.
abbrev pub is_place_past : Option ℕ → Option ℕ → Bool
is_place_past None place = false
is_place_past (Some end) None = false
is_place_past (Some end) (Some place) = nat_le end place

unfoldable pub is_past : Option ℕ → List ℕ → Bool
is_past end line = is_place_past end (line_place line)

-- How a line compares whose subject the other text lacks, by where the entries of that text end.
unfoldable pub lone_outcome : Option ℕ → List ℕ → Outcome
lone_outcome end line = if is_unchecked line || is_past end line then Unchecked else Different

-- All bytes that an entry read are shown where its `data` does not end in `+`.
abbrev pub is_whole_data : List ℕ → Bool
is_whole_data fact = bytes_eq (codes "data") (fact_name fact) && not (ends_with nat_eq fact (codes "+"))

abbrev pub shows_data : List ℕ → Bool
shows_data line = list_any is_whole_data (facts line)

abbrev pub has_data_sum : List ℕ → Bool
has_data_sum line = has_named (codes "data-sum") line

-- The bytes that an entry read are compared where both lines have their sum, or show all of them.
unfoldable pub lacks_bytes : List ℕ → List ℕ → Bool
lacks_bytes one other =
    (has_named (codes "data") one || has_data_sum one || has_named (codes "data") other || has_data_sum other)
    && not (has_data_sum one && has_data_sum other) && not (shows_data one && shows_data other)

-- A sum is not compared that only one line has.
abbrev pub has_sum : List ℕ → Bool
has_sum line = has_named (codes "sum") line

unfoldable pub lacks_sum : List ℕ → List ℕ → Bool
lacks_sum one other = if has_sum one then not (has_sum other) else has_sum other

-- The bytes of two large files are not compared where neither has its sum, unless both have the sum of their pieces' sums.
abbrev pub is_large : List ℕ → Bool
is_large line = has_fact (codes "sum=large") line

abbrev pub has_tree_sum : List ℕ → Bool
has_tree_sum line = has_named (codes "tree-sum") line

unfoldable pub lacks_large : List ℕ → List ℕ → Bool
lacks_large one other = is_large one && is_large other && not (has_tree_sum one && has_tree_sum other)

-- Lines that are unchecked or given are claimed to be neither equal nor different.
abbrev pub is_compared : Outcome → Bool
is_compared Equal = true
is_compared Different = true
is_compared Unchecked = false
is_compared Given = false

-- What is found of two lines of one subject, and of a line whose subject the other text lacks.
abbrev pub finding_of : Section → Outcome → List ℕ → List ℕ → Finding
finding_of section outcome one other = record {
  section = section;
  outcome = outcome;
  bytes = is_compared outcome && lacks_bytes one other;
  sum = is_compared outcome && lacks_sum one other;
  large = is_compared outcome && lacks_large one other;
}

abbrev pub pair_finding : Section → List ℕ → List ℕ → Finding
pair_finding section one other = finding_of section (pair_outcome one other) one other

abbrev pub lone_finding : Option ℕ → Section → List ℕ → Finding
lone_finding end section line = record { section = section; outcome = lone_outcome end line; bytes = false; sum = false; large = false }

-- The signs `-`, `+` and `~`, and a line behind one.
abbrev pub minus : ℕ
minus = 45

abbrev pub plus : ℕ
plus = 43

abbrev pub tilde : ℕ
tilde = 126

abbrev pub told : ℕ → List ℕ → List ℕ
told sign line = sign ∷ 32 ∷ (line ++ 10 ∷ [])

-- What is told of two lines of one subject.
abbrev pub pair_text : Outcome → List ℕ → List ℕ → List ℕ
pair_text Equal one other = []
pair_text Given one other = []
pair_text Different one other = told minus one ++ told plus other
pair_text Unchecked one other = told tilde other

-- What is told of a line whose subject the other text lacks.
abbrev pub lone_text : Outcome → ℕ → List ℕ → List ℕ
lone_text Equal sign line = []
lone_text Given sign line = []
lone_text Different sign line = told sign line
lone_text Unchecked sign line = told tilde line

-- What comparing one line finds, and what is told of it.
pub record Found : Type 0 where
  pub finding : Finding
  pub text : List ℕ

abbrev pub found_pair : Section → List ℕ → List ℕ → List Found
found_pair section one other =
    record { finding = pair_finding section one other; text = pair_text (pair_outcome one other) one other } ∷ []

abbrev pub found_lone : Option ℕ → ℕ → Section → List ℕ → List Found
found_lone end sign section line =
    record { finding = lone_finding end section line; text = lone_text (lone_outcome end line) sign line } ∷ []

-- Whether a text has a section, by its heading. Every text has entries.
unfoldable pub has_section : List (List ℕ) → Section → Bool
has_section text Entries = true
has_section text Tree = is_some (line_about text (codes "tree"))
has_section text Slots = is_some (line_about text (codes "slots"))
has_section text Buffers = is_some (line_about text (codes "buffers"))

-- What is found of a line that the other text lacks, whose entries end there: nothing where that text has not the section.
unfoldable pub found_lacking : Option ℕ → ℕ → List (List ℕ) → Section → List ℕ → List Found
found_lacking end sign text section line = if has_section text section then found_lone end sign section line else []

-- What is found of a line of the first text, beside the second text's line of its subject.
abbrev pub found_beside : Option ℕ → List (List ℕ) → Section → List ℕ → Option (List ℕ) → List Found
found_beside end second section line None = found_lacking end minus second section line
found_beside end second section line (Some other) = found_pair section line other

abbrev pub found_in_first : Option ℕ → List (List ℕ) → List ℕ → Option Section → List Found
found_in_first end second line None = []
found_in_first end second line (Some section) = found_beside end second section line (line_about second (subject line))

unfoldable pub of_first : Option ℕ → List (List ℕ) → List ℕ → List Found
of_first end second line = found_in_first end second line (section_of (line_kind line))

-- What is found of a line of the second text: nothing where the first has one of its subject.
abbrev pub found_past : Option ℕ → List (List ℕ) → Section → List ℕ → Option (List ℕ) → List Found
found_past end first section line None = found_lacking end plus first section line
found_past end first section line (Some other) = []

abbrev pub found_in_second : Option ℕ → List (List ℕ) → List ℕ → Option Section → List Found
found_in_second end first line None = []
found_in_second end first line (Some section) = found_past end first section line (line_about first (subject line))

unfoldable pub of_second : Option ℕ → List (List ℕ) → List ℕ → List Found
of_second end first line = found_in_second end first line (section_of (line_kind line))

-- Where the entries of both texts end, where one of them was cut off.
pub record Ends : Type 0 where
  pub first : Option ℕ
  pub second : Option ℕ

-- What a comparison of two texts finds: of each line of the first, and then of the lines that only the second has. A line that repeats what an earlier one says is passed over.
unfoldable pub found : Ends → List (List ℕ) → List (List ℕ) → List Found
found ends first second = flat_map (of_first ends.second second) (once first) ++ flat_map (of_second ends.first first) (once second)

-- Whether two sections are one, or two outcomes.
abbrev pub same_section : Section → Section → Bool
same_section Entries Entries = true
same_section Tree Tree = true
same_section Slots Slots = true
same_section Buffers Buffers = true
same_section _ _ = false

abbrev pub same_outcome : Outcome → Outcome → Bool
same_outcome Equal Equal = true
same_outcome Different Different = true
same_outcome Unchecked Unchecked = true
same_outcome Given Given = true
same_outcome _ _ = false

-- How many findings of a section have an outcome.
abbrev pub is_of : Section → Outcome → Finding → Bool
is_of section outcome finding = same_section finding.section section && same_outcome finding.outcome outcome

unfoldable pub count : List Finding → Section → Outcome → ℕ
count findings section outcome = count_by (is_of section outcome) findings

-- The line of a section's counts.
abbrev pub section_name : Section → List ℕ
section_name Entries = codes "entries"
section_name Tree = codes "tree"
section_name Slots = codes "slots"
section_name Buffers = codes "buffers"

unfoldable pub tally_line : Section → (equal different unchecked given : ℕ) → List ℕ
tally_line section equal different unchecked given =
    section_name section ++ (codes " " ++ (decimal equal ++ (codes " equal, " ++ (decimal different ++ (codes " different, "
    ++ (decimal unchecked ++ (codes " unchecked, " ++ (decimal given ++ codes " given\n"))))))))

abbrev pub count_line : List Finding → Section → List ℕ
count_line findings section =
    tally_line section (count findings section Equal) (count findings section Different) (count findings section Unchecked) (count findings section Given)

-- How many pairs of lines have bytes, a sum or a large file that is not compared.
abbrev pub bytes_count : List Finding → ℕ
bytes_count findings = count_by (λ f. f.bytes) findings

abbrev pub sum_count : List Finding → ℕ
sum_count findings = count_by (λ f. f.sum) findings

abbrev pub large_count : List Finding → ℕ
large_count findings = count_by (λ f. f.large) findings

unfoldable pub is_complete : List Finding → Bool
is_complete findings = bytes_count findings == 0 && (sum_count findings == 0 && large_count findings == 0)

-- The line of what is not compared, where there is something.
unfoldable pub lacks_line : (bytes sums large : ℕ) → List ℕ
lacks_line bytes sums large =
    codes "not compared: data " ++ (decimal bytes ++ (codes " entries, sums " ++ (decimal sums ++ (codes ", large " ++ (decimal large ++ codes "\n")))))

abbrev pub lacks_text : List Finding → List ℕ
lacks_text findings =
    if is_complete findings then [] else lacks_line (bytes_count findings) (sum_count findings) (large_count findings)

abbrev pub counts_text : List Finding → List ℕ
counts_text findings =
    count_line findings Entries ++ count_line findings Tree ++ count_line findings Slots ++ count_line findings Buffers ++ lacks_text findings

abbrev pub findings : List Found → List Finding
findings founds = map (λ f. f.finding) founds

abbrev pub found_text : List Found → List ℕ
found_text founds = flat_map (λ f. f.text) founds

-- The text of a comparison: the lines that are told, and the counts of each section.
abbrev pub text_of_found : List Found → List ℕ
text_of_found founds = found_text founds ++ counts_text (findings founds)

-- Two texts pass where no line differs and, if that is asked for, nothing is left that is not compared.
unfoldable pub no_difference : List Finding → Bool
no_difference all = not (list_any (λ f. same_outcome f.outcome Different) all)

unfoldable pub passes : (strict : Bool) → List Finding → Bool
passes strict all = no_difference all && (not strict || is_complete all)

-- A view of code: the counts of a section, and those of all.
pub record IsTally (section : Section) (all : List Finding) (tally : Tally) : Type 0 where
  pub equal : tally.equal ≡ count all section Equal
  pub different : tally.different ≡ count all section Different
  pub unchecked : tally.unchecked ≡ count all section Unchecked
  pub given : tally.given ≡ count all section Given

pub record AreCounts (all : List Finding) (counts : Counts) : Type 0 where
  pub entries : IsTally Entries all counts.entries
  pub tree : IsTally Tree all counts.tree
  pub slots : IsTally Slots all counts.slots
  pub buffers : IsTally Buffers all counts.buffers
  pub bytes : counts.bytes ≡ bytes_count all
  pub sums : counts.sums ≡ sum_count all
  pub large : counts.large ≡ large_count all

-- Some more was found, and is told.
pub record Adds (old new : Told) (more : List Found) : Type 0 where
  pub counts : (all : List Finding) → AreCounts all old.counts → AreCounts (all ++ findings more) new.counts
  pub text : new.text.items ≡ old.text.items ++ found_text more

-- What was found so far.
pub record Holds (all : Told) (founds : List Found) : Type 0 where
  pub counts : AreCounts (findings founds) all.counts
  pub text : all.text.items ≡ found_text founds
