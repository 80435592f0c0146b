-- The model: the lines of a report, what each is about and what it says. At the end, a view of code: the map of the lines by what they are about.
use Rattle.std.specs.Prelude.{ℕ, ◌≡◌, ◌+◌, ◌==◌, Bool, not, List, [], ◌∷◌, ◌++◌, length, map, filter, take, drop, codes, Option, None, Some, if◌then◌else◌}
use Rattle.std.specs.List.{before_first, find, list_any, position_or_len, slice_split, join_with_byte}
use Rattle.std.specs.Str.{bytes_eq}
use Rattle.std.specs.Borrow.{Bor}
use Rattle.std.specs.Ordering.{nat_cmp}
use Rattle.std.specs.Cmp.Lexicographic.{slice_cmp}
use Rattle.std.specs.BTreeMap.{BTreeMap, get_by}
use Rattle.std.specs.Option.{option_map}
use Rattle.report_diff.specs.declared.lines.Kind.{Kind}
use Rattle.report_diff.specs.declared.lines.Kind.TheVariants.{Heading, Entry, Name, Slot, Descriptor, Buffer}
use Rattle.report_diff.specs.declared.lines.Section.{Section}
use Rattle.report_diff.specs.declared.lines.Section.TheVariants.{Entries, Tree, Slots, Buffers}

-- The lines of a text stand between its line feeds, and the words of a line between its spaces.
abbrev pub lines : List ℕ → List (List ℕ)
lines text = slice_split (λ b. b == 10) text

abbrev pub words : List ℕ → List (List ℕ)
words line = slice_split (λ b. b == 32) line

-- The first words of a line, so many, with the spaces between them.
unfoldable pub first_words : ℕ → List ℕ → List ℕ
first_words count line = join_with_byte 32 (take count (words line))

-- The words that begin a heading. A line with no first word is taken for one.
abbrev pub heading_words : List (List ℕ)
heading_words = codes "uring-report" ∷ codes "ring" ∷ codes "tree" ∷ codes "slots" ∷ codes "buffers" ∷ codes "end" ∷ codes "" ∷ []

-- What a line is, by its first word.
unfoldable pub kind_of : List ℕ → Kind
kind_of word =
    if bytes_eq word (codes "dir") then Name else if bytes_eq word (codes "file") then Name else if bytes_eq word (codes "link") then Name
    else if bytes_eq word (codes "slot") then Slot else if bytes_eq word (codes "descriptor") then Descriptor
    else if bytes_eq word (codes "buffer") then Buffer
    else if list_any (bytes_eq word) heading_words then Heading else Entry

unfoldable pub line_kind : List ℕ → Kind
line_kind line = kind_of (first_words 1 line)

-- How many words say what a line is about.
abbrev pub subject_words : Kind → ℕ
subject_words Slot = 3
subject_words Buffer = 3
subject_words Name = 2
subject_words Descriptor = 2
subject_words _ = 1

-- What a line is about: its first words. The others are its facts, but for times.
unfoldable pub subject : List ℕ → List ℕ
subject line = first_words (subject_words (line_kind line)) line

-- The name of a fact `NAME=VALUE`; that of a bare word is empty.
unfoldable pub fact_name : List ℕ → List ℕ
fact_name fact = if position_or_len (λ b. b == 61) fact == length fact then [] else before_first (λ b. b == 61) fact

-- When an entry was submitted, and when its completion was seen, is no fact of it.
abbrev pub is_time : List ℕ → Bool
is_time word = list_any (bytes_eq (fact_name word)) (codes "submitted" ∷ codes "completed" ∷ [])

unfoldable pub facts : List ℕ → List (List ℕ)
facts line = filter (λ word. not (is_time word)) (drop (subject_words (line_kind line)) (words line))

-- The section that a line is in; a heading is in none.
abbrev pub section_of : Kind → Option Section
section_of Heading = None
section_of Entry = Some Entries
section_of Name = Some Tree
section_of Slot = Some Slots
section_of Descriptor = Some Slots
section_of Buffer = Some Buffers

-- The first line that a test finds behind the lines before it: its number, from 1, and its subject.
abbrev pub first_behind : (List (List ℕ) → List ℕ → Bool) → List (List ℕ) → List (List ℕ) → Option (ℕ × List ℕ)
first_behind test earlier [] = None
first_behind test earlier (line ∷ more) = if test earlier line then Some (length earlier + 1, subject line) else first_behind test (earlier ++ line ∷ []) more

-- The first line of a text about a subject.
unfoldable pub line_about : List (List ℕ) → List ℕ → Option (List ℕ)
line_about text about = find (λ line. bytes_eq (subject line) about) text

-- The bytes of each slice.
abbrev pub texts : List (Bor (List ℕ)) → List (List ℕ)
texts slices = map (λ slice. slice.now) slices

-- The line that a map has at a subject.
abbrev pub line_at : BTreeMap (Bor (List ℕ)) (Bor (List ℕ)) → List ℕ → Option (List ℕ)
line_at known about = option_map (λ line. line.now) (get_by (λ k. slice_cmp nat_cmp about k.now) known)

-- The map has the first line of a text about each subject.
abbrev pub Knows : BTreeMap (Bor (List ℕ)) (Bor (List ℕ)) → List (List ℕ) → Type 0
Knows known text = (about : List ℕ) → line_at known about ≡ line_about text about
