-- The model: the entries of a report in the order of their places. At the end, views of code: digits, and the least place that may follow.
use Rattle.std.specs.Prelude.{ℕ, ◌≡◌, ◌^◌, ◌&&◌, Bool, true, false, not, nat_le, nat_lt, List, [], Option, None, Some, if◌then◌else◌}
use Rattle.std.specs.List.{filter_map, list_all}
use Rattle.std.specs.Char.{is_ascii_digit}
use Rattle.std.specs.Fmt.{decimal}
use Rattle.std.specs.Str.{bytes_eq}
use Rattle.std.specs.Str.Parse.{digits_value}
use Rattle.report_diff.specs.declared.lines.Kind.{Kind}
use Rattle.report_diff.specs.declared.lines.Kind.TheVariants.{Entry}
use Rattle.report_diff.specs.Lines.{first_behind, line_kind, subject}

-- The place that a word is: a number of 32 bits, as it is written in decimal.
unfoldable pub place_of : List ℕ → Option ℕ
place_of word =
    if nat_lt (digits_value 10 word) (2 ^ 32) && bytes_eq word (decimal (digits_value 10 word)) then Some (digits_value 10 word) else None

-- The place of an entry is its subject. Other lines have none.
abbrev pub is_entry : Kind → Bool
is_entry Entry = true
is_entry _ = false

unfoldable pub line_place : List ℕ → Option ℕ
line_place line = if is_entry (line_kind line) then place_of (subject line) else None

-- A place rises behind lines where it is above each of their places.
abbrev pub rises : List (List ℕ) → Option ℕ → Bool
rises earlier None = false
rises earlier (Some place) = list_all (λ one. nat_lt one place) (filter_map line_place earlier)

-- Whether a line is of an entry without a place, or whose place does not rise.
unfoldable pub falls : List (List ℕ) → List ℕ → Bool
falls earlier line = is_entry (line_kind line) && not (rises earlier (line_place line))

unfoldable pub first_fall : List (List ℕ) → Option (ℕ × List ℕ)
first_fall text = first_behind falls [] text

-- The number of 32 bits that digits write.
abbrev pub number_of : List ℕ → Option ℕ
number_of digits = if list_all is_ascii_digit digits && nat_lt (digits_value 10 digits) (2 ^ 32) then Some (digits_value 10 digits) else None

-- A place rises behind some lines from this one on.
abbrev pub RisesFrom : ℕ → List (List ℕ) → Type 0
RisesFrom next text = (place : ℕ) → rises text (Some place) ≡ nat_le next place
