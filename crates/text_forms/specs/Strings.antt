-- The model: paths, strings, and the pieces that bytes are shown in.
use Rattle.std.specs.Prelude.{ℕ, zero, suc, ◌/◌, ◌%◌, ◌==◌, ◌&&◌, ◌||◌, not, nat_le, Bool, true, false, List, [], ◌∷◌, ◌++◌, length, take, drop, codes, if◌then◌else◌}
use Rattle.std.specs.List.{flat_map, count_by}
use Rattle.std.specs.Fmt.{decimal, digit_glyph}

-- the two hexadecimal digits of a byte
abbrev pub hex_byte : ℕ → List ℕ
hex_byte b = digit_glyph false (b / 16) ∷ digit_glyph false (b % 16) ∷ []

-- a byte by its digits
abbrev pub hex_escape : ℕ → List ℕ
hex_escape b = codes "\\x" ++ hex_byte b

-- a byte that can be seen, but a backslash
abbrev pub is_visible : ℕ → Bool
is_visible b = nat_le 33 b && nat_le b 126 && not (b == 92)

-- a byte of a path: itself where it can be seen, else its digits
abbrev pub path_byte : ℕ → List ℕ
path_byte b = if is_visible b then b ∷ [] else hex_escape b

abbrev pub path_text : List ℕ → List ℕ
path_text path = flat_map path_byte path

-- a byte that can be seen, or a space
abbrev pub is_printable : ℕ → Bool
is_printable b = nat_le 32 b && nat_le b 126

-- the letter that stands for a byte behind a backslash, and 0 where none does
abbrev pub escape_letter : ℕ → ℕ
escape_letter b = if b == 10 then 110 else if b == 9 then 116 else if b == 13 then 114 else if b == 0 then 48 else if b == 34 then 34 else if b == 92 then 92 else 0

-- a byte of a string: a short escape, itself, or its digits
abbrev pub quoted_byte : ℕ → List ℕ
quoted_byte b = if escape_letter b == 0 then (if is_printable b then b ∷ [] else hex_escape b) else 92 ∷ escape_letter b ∷ []

abbrev pub string_text : List ℕ → List ℕ
string_text bytes = 34 ∷ flat_map quoted_byte bytes ++ 34 ∷ []

-- bytes by their digits
abbrev pub hex_text : List ℕ → List ℕ
hex_text bytes = codes "x\"" ++ flat_map hex_byte bytes ++ 34 ∷ []

-- a byte that a string shows by its digits
abbrev pub is_hidden : ℕ → Bool
is_hidden b = not (is_printable b || b == 9 || b == 10 || b == 13)

-- a string where at most one byte of four is hidden, else digits
abbrev pub plain_text : List ℕ → List ℕ
plain_text bytes = if nat_le (count_by is_hidden bytes) (length bytes / 4) then string_text bytes else hex_text bytes

-- a run of one byte: the byte and how many there are
abbrev pub run_text : List ℕ → List ℕ
run_text run = string_text (take 1 run) ++ 42 ∷ decimal (length run)

-- how many bytes a run has at least, and a plain piece at most
abbrev pub least_run : ℕ
least_run = 16

abbrev pub most_plain : ℕ
most_plain = 64

-- plain pieces, each behind the same text; so many at most
abbrev pub plains : List ℕ → ℕ → List ℕ → List ℕ
plains before zero bytes = []
plains before (suc n) bytes =
    if length bytes == 0 then [] else before ++ plain_text (take most_plain bytes) ++ plains before n (drop most_plain bytes)

abbrev pub plain_pieces : List ℕ → List ℕ → List ℕ
plain_pieces before bytes = plains before (length bytes) bytes

-- whether a byte goes on with a run
abbrev pub goes_on : ℕ → List ℕ → Bool
goes_on c [] = true
goes_on c (b ∷ bs) = c == b

-- plain bytes and a run behind them that is long, or is none
abbrev pub ended : List ℕ → List ℕ → List ℕ → List ℕ
ended before plain run =
    if nat_le least_run (length run) then plain_pieces before plain ++ before ++ run_text run else plain_pieces before (plain ++ run)

-- the pieces of bytes, behind plain ones and a run that are not shown yet
abbrev pub pieces : List ℕ → List ℕ → List ℕ → List ℕ → List ℕ
pieces before plain run [] = ended before plain run
pieces before plain run (c ∷ rest) =
    if goes_on c run then pieces before plain (run ++ c ∷ []) rest
    else if nat_le least_run (length run) then ended before plain run ++ pieces before [] (c ∷ []) rest
    else pieces before (plain ++ run) (c ∷ []) rest
