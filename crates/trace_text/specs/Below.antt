-- The model: a text of differences, with the entries that its lines are of. At the end, a view of code: the bytes of slices.
use Rattle.std.specs.Prelude.{ℕ, ◌==◌, ◌&&◌, ◌||◌, nat_le, false, Bool, List, [], ◌++◌, codes, length, map, take, drop, if◌then◌else◌, unwrap_or, Some}
use Rattle.std.specs.List.{before_first, flat_map, slice_get, slice_split}
use Rattle.std.specs.Str.{bytes_eq}
use Rattle.std.specs.Borrow.{Bor}
use Rattle.std.specs.Fmt.{decimal}
use Rattle.trace_format.specs.Steps.{Action, submit, fill, steps}
use Rattle.trace_format.specs.declared.trace.Trace.{Trace}
use Rattle.trace_text.specs.Entry.{entry_words}
use Rattle.trace_text.specs.Shown.{numbered}
use Rattle.trace_text.specs.declared.look.Look.{Look}

-- An entry is shown without its place, and with the first 32 of its bytes.
abbrev pub brief : Look
brief = record { places = false; first = Some 32 }

-- The line of a place, of those of all places in order. A place without an entry has an empty one.
abbrev pub line_at : List (List ℕ) → ℕ → List ℕ
line_at lines place = unwrap_or (slice_get lines place) []

-- The line of a place, where a word is that place.
abbrev pub line_if_named : List ℕ → ℕ → List ℕ → List ℕ
line_if_named word place line = if bytes_eq word (decimal place) then line else []

-- The line of the place that a word is.
unfoldable pub named_line : List (List ℕ) → List ℕ → List ℕ
named_line lines word = numbered (line_if_named word) 0 lines

-- Whether a line is one that differs: it begins with `-` or `+`, and a space.
abbrev pub differs : List ℕ → Bool
differs line = nat_le 2 (length line) && (bytes_eq (take 2 line) (codes "- ") || bytes_eq (take 2 line) (codes "+ "))

-- The word behind that. It is a place where the line is of an entry.
abbrev pub told_word : List ℕ → List ℕ
told_word line = if differs line then before_first (λ b. b == 32) (drop 2 line) else []

-- A line, and below it the entry that it is of. An empty line is none.
unfoldable pub line_with_entry : List (List ℕ) → List ℕ → List ℕ
line_with_entry lines line = if length line == 0 then [] else line ++ codes "\n" ++ named_line lines (told_word line)

-- The lines of a text stand between its line feeds.
unfoldable pub with_lines : List (List ℕ) → List ℕ → List ℕ
with_lines lines text = flat_map (line_with_entry lines) (slice_split (λ b. b == 10) text)

-- The line of a step of version 1 or 2. A fill has none.
abbrev pub action_line : Action → List ℕ
action_line (submit entry) = entry_words brief entry
action_line (fill buffer offset bytes) = []

-- Those of all places of a trace.
abbrev pub entry_lines : Trace → List (List ℕ)
entry_lines t = map (λ s. action_line s.action) (steps t)

abbrev pub with_entries : Trace → List ℕ → List ℕ
with_entries t text = with_lines (entry_lines t) text

-- The bytes of each slice.
abbrev pub texts : List (Bor (List ℕ)) → List (List ℕ)
texts slices = map (λ slice. slice.now) slices
