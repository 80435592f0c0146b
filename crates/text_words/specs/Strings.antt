-- The model: strings of a text.
use Rattle.std.specs.Prelude.{ℕ, ◌-◌, ◌*◌, ◌==◌, ◌||◌, nat_lt, nat_eq, Bool, List, [], ◌∷◌, ◌++◌, length, drop, Option, None, Some, Result, Ok, Err, codes, slice_index, if◌then◌else◌}
use Rattle.std.specs.List.{starts_with, repeat}
use Rattle.text_forms.specs.Strings.{is_printable}
use Rattle.text_words.specs.declared.fault.Fault.{Fault}
use Rattle.text_words.specs.declared.fault.Reason.{Reason}
use Rattle.text_words.specs.declared.fault.Reason.TheVariants as why
use Rattle.text_words.specs.Numbers.{count_at}
use Rattle.text_words.specs.Paths.{hex_byte, hex_escape}
use Rattle.text_words.specs.Read.{Rest, ◌>>=◌, fault, known, refuse_if, repeated, told_at}
use Rattle.text_words.specs.Words.{behind_blanks, behind_word, is_at_end, is_gap, word_at}

-- whether a string is next
abbrev pub is_string : Rest → Bool
is_string r = starts_with nat_eq (behind_blanks r.text) (codes "\"") || starts_with nat_eq (behind_blanks r.text) (codes "x\"")

-- the byte that a letter stands for behind a backslash
abbrev pub escaped : ℕ → Option ℕ
escaped b =
    if b == 110 then Some 10 else if b == 116 then Some 9 else if b == 114 then Some 13 else if b == 48 then Some 0
    else if b == 34 then Some 34 else if b == 92 then Some 92 else None

-- the byte of a text that begins with a backslash, and how many letters are it
unfoldable pub escape : List ℕ → Result (ℕ × ℕ) Reason
escape text = elim (hex_escape text) [
  | Some byte ↦ Ok (byte, 4)
  | None ↦ elim (escaped (slice_index text 1)) [ Some byte ↦ Ok (byte, 2) | None ↦ Err why.Escape ]
]

-- the first byte of a string, and how many letters are it
unfoldable pub letter : List ℕ → Result (ℕ × ℕ) Reason
letter text =
    if slice_index text 0 == 92 then escape text
    else if is_printable (slice_index text 0) then Ok (slice_index text 0, 1) else Err why.Letter

-- one letter more of a string, behind others, and what is left behind it
unfoldable pub one_letter : List ℕ → List ℕ → Result (List ℕ × List ℕ) Fault
one_letter bytes text = do
  x ← told_at (length text) (letter text)
  Ok (bytes ++ x.0 ∷ [], drop x.1 text)

-- the same of a string of digits
unfoldable pub one_byte : List ℕ → List ℕ → Result (List ℕ × List ℕ) Fault
one_byte bytes text = do
  byte ← known (hex_byte text) (fault why.Digits (length text))
  Ok (bytes ++ byte ∷ [], drop 2 text)

-- one more, up to the mark at the end of a string
abbrev pub up_to_mark : (List ℕ → List ℕ → Result (List ℕ × List ℕ) Fault) → List ℕ × List ℕ → Option (Result (List ℕ × List ℕ) Fault)
up_to_mark one s = if starts_with nat_eq s.1 (codes "\"") then None else Some (one s.0 s.1)

-- the bytes that letters up to the mark at the end of a string are, behind others, and what is left from the mark on
unfoldable pub letters : List ℕ → List ℕ → Result (List ℕ × List ℕ) Fault
letters bytes text = repeated (length text) (up_to_mark one_letter) (bytes, text)

-- the same of digits
unfoldable pub digits : List ℕ → List ℕ → Result (List ℕ × List ℕ) Fault
digits bytes text = repeated (length text) (up_to_mark one_byte) (bytes, text)

-- what is left behind the mark
abbrev pub behind_mark : Reason → List ℕ → Result (List ℕ) Fault
behind_mark none text = if starts_with nat_eq text (codes "\"") then Ok (drop 1 text) else Err (fault none (length text))

-- why a word is no string
abbrev pub no_string : List ℕ → Reason
no_string text = if starts_with nat_eq text (codes "...") then why.Cut else why.NoString

-- a read string with what is left behind its mark
abbrev pub marked : Reason → List ℕ × List ℕ → Result (List ℕ × List ℕ) Fault
marked none s = do
  text ← behind_mark none s.1
  Ok (s.0, text)

-- the bytes of a string once, behind others, and what is left behind its marks
unfoldable pub once : List ℕ → List ℕ → Result (List ℕ × List ℕ) Fault
once bytes text =
    if starts_with nat_eq text (codes "\"") then letters bytes (drop 1 text) >>= marked why.Letter
    else if starts_with nat_eq text (codes "x\"") then digits bytes (drop 2 text) >>= marked why.Digits
    else Err (fault (no_string text) (length text))

-- how often a string stands there: its count, or once
unfoldable pub count_of : List ℕ → Result ℕ Fault
count_of text =
    if starts_with nat_eq text (codes "*") then count_at (record { bytes = drop 1 (word_at text); left = length text - 1 }) else Ok 1

-- what is left behind the count, if there is one; a gap follows
unfoldable pub behind_count : List ℕ → Result (List ℕ) Fault
behind_count text =
    if starts_with nat_eq text (codes "*") then Ok (behind_word text)
    else if length text == 0 || is_gap (slice_index text 0) then Ok text
    else Err (fault why.NoString (length text))

-- the bytes of the next string behind others, where there is room for them
unfoldable pub more_string : List ℕ → Rest → Result (List ℕ × Rest) Fault
more_string bytes r = do
  read ← once [] (behind_blanks r.text)
  count ← count_of read.1
  _ ← refuse_if (nat_lt r.room (length read.0 * count)) (fault why.Room (length (behind_blanks r.text)))
  text ← behind_count read.1
  Ok (bytes ++ repeat count read.0, record { text = text; room = r.room - length read.0 * count })

-- one string more, up to the end of the line
abbrev pub more_strings : List ℕ × Rest → Option (Result (List ℕ × Rest) Fault)
more_strings s = if is_at_end s.1 then None else Some (more_string s.0 s.1)

-- the bytes of all strings up to the end of the line
unfoldable pub strings_of : Rest → Result (List ℕ × Rest) Fault
strings_of r = repeated (length r.text) more_strings ([], r)
