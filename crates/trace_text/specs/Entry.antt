-- The model: the line of an entry.
use Rattle.std.specs.Prelude.{ℕ, zero, suc, ◌+◌, ◌*◌, ◌==◌, ◌&&◌, ◌||◌, nat_lt, nat_le, Bool, List, [], ◌++◌, codes, length, take, drop, if◌then◌else◌, Option, Some, None}
use Rattle.std.specs.Fmt.{decimal}
use Rattle.std.specs.Int.{w16, w32, w64, from_le_bytes, cast_unsigned}
use Rattle.sqe_codec.specs.declared.sqe.Sqe.{Sqe}
use Rattle.trace_format.specs.Submitted.{Submitted}
use Rattle.text_forms.specs.Strings.{path_text, pieces}
use Rattle.trace_text.specs.Names.{opcode_text, entry_flags}
use Rattle.trace_text.specs.Fields.{fd_word, later_words, field}
use Rattle.trace_text.specs.declared.look.Look.{Look}

-- what stands before each string: a space where the bytes are few, else the start of a line of its own
abbrev pub gap : List ℕ → List ℕ → List ℕ
gap line bytes = if nat_le (length bytes) 64 then codes " " else line

-- the first bytes, where there is a limit
abbrev pub shown_part : Option ℕ → List ℕ → List ℕ
shown_part None bytes = bytes
shown_part (Some n) bytes = take n bytes

-- Bytes as strings, and dots where some are not shown.
abbrev pub data_text : Look → List ℕ → List ℕ → List ℕ
data_text look line bytes =
    let front = shown_part look.first bytes in
    pieces (gap line front) [] [] front ++ (if nat_lt (length front) (length bytes) then codes " ..." else [])

-- How many lengths a vector beside an entry has.
abbrev pub vector_count : Sqe → List ℕ → ℕ
vector_count e side = if (e.opcode == 1 || e.opcode == 2) && nat_le e.len 1024 && nat_le (8 * e.len) (length side) then e.len else 0

-- So many lengths, with commas between them.
abbrev pub lengths_from : ℕ → List ℕ → List ℕ
lengths_from zero bytes = []
lengths_from (suc n) bytes = (codes "," ++ decimal (from_le_bytes w64 (take 8 bytes))) ++ lengths_from n (drop 8 bytes)

abbrev pub lengths_text : ℕ → List ℕ → List ℕ
lengths_text zero bytes = []
lengths_text (suc n) bytes = (codes " [" ++ decimal (from_le_bytes w64 (take 8 bytes)) ++ lengths_from n (drop 8 bytes)) ++ codes "]"

-- Whether an operation has one path beside it, or two, which fit.
abbrev pub has_path : Sqe → Bool
has_path e = e.opcode == 18 || e.opcode == 36 || e.opcode == 37

abbrev pub has_paths : Sqe → List ℕ → Bool
has_paths e side = (e.opcode == 35 || e.opcode == 39) && nat_le 2 (length side) && nat_le (2 + from_le_bytes w16 (take 2 side)) (length side)

-- What stands beside an entry, but the bytes that it writes.
abbrev pub paths_text : List ℕ → List ℕ
paths_text side =
    let first = from_le_bytes w16 (take 2 side) in
    field (codes "old") (path_text (take first (drop 2 side))) ++ field (codes "new") (path_text (drop first (drop 2 side)))

abbrev pub side_words : Sqe → List ℕ → List ℕ
side_words e side =
    if has_path e then field (codes "path") (path_text side)
    else if has_paths e side then paths_text side
    else lengths_text (vector_count e side) side

-- The bytes that it writes.
abbrev pub data_of : Sqe → List ℕ → List ℕ
data_of e side = if has_path e then [] else if has_paths e side then [] else drop (8 * vector_count e side) side

-- The length that an entry has where none is written.
abbrev pub default_len : Sqe → List ℕ → ℕ
default_len e side = if e.opcode == 23 then length side else vector_count e side

-- The place of a step, where places are shown.
abbrev pub place_comment : Look → List ℕ → ℕ → List ℕ
place_comment look indent place = if look.places then indent ++ codes "# " ++ decimal place ++ codes "\n" else []

-- The first words of an entry: its operation, its flags and its descriptor.
abbrev pub head_words : Sqe → List ℕ
head_words e = codes "  " ++ opcode_text e.opcode ++ entry_flags e.flags ++ fd_word e.opcode (cast_unsigned w32 e.fd)

-- The words of an entry before the bytes that it writes. Its length is left out where it is the one that is told.
abbrev pub front_words : Sqe → List ℕ → ℕ → List ℕ
front_words e side default = head_words e ++ side_words e side ++ later_words e default

-- The words of an entry of these fields, with these bytes beside it.
unfoldable pub words_of : Look → Sqe → List ℕ → List ℕ
words_of look e side = front_words e side (default_len e side) ++ data_text look (codes " \\\n    ") (data_of e side) ++ codes "\n"

-- The words of an entry.
abbrev pub entry_words : Look → Submitted → List ℕ
entry_words look e = words_of look e.sqe e.side

-- The line of the entry at a place.
unfoldable pub entry_line : Look → ℕ → Submitted → List ℕ
entry_line look place e = place_comment look (codes "  ") place ++ entry_words look e
