-- A law: numbers, words, paths and strings are read as they are shown.
use Rattle.std.specs.Prelude.{◌≡◌, ◌<◌, ◌≤◌, ℕ, ◌+◌, ◌-◌, ◌^◌, ◌==◌, ◌||◌, ◌&&◌, not, Bool, true, false, List, [], ◌∷◌, ◌++◌, length, codes, None, Some, Ok}
use Rattle.std.specs.List.{list_any}
use Rattle.std.specs.Fmt.{decimal}
use Rattle.sqe_codec.specs.Fields.{IsBytes}
use Rattle.text_forms.specs.Numbers.{hexadecimal}
use Rattle.text_forms.specs.Strings.{path_text}
use Rattle.trace_text.specs.declared.look.Look.{Look}
use Rattle.trace_text.specs.Entry.{data_text}
use Rattle.text_words.specs.Read.{Rest, Word}
use Rattle.text_words.specs.Numbers.{count_at, greatest, number}
use Rattle.text_words.specs.Paths.{path_at}
use Rattle.text_words.specs.Strings.{strings_of}
use Rattle.text_words.specs.Words.{behind_blanks, behind_lines, behind_next, behind_word, is_at_end, is_gap, next_word, value_at, word_at}

-- The first byte ends a word, if there is one.
abbrev pub at_gap : List ℕ → Bool
at_gap [] = true
at_gap (b ∷ bs) = is_gap b

-- Bytes that are one word, none of them a gap: the first one begins no comment, and is no backslash.
abbrev pub is_word : List ℕ → Bool
is_word [] = false
is_word (b ∷ bs) = not (b == 35 || b == 92) && not (list_any is_gap (b ∷ bs))

-- What is left of a text, and a word.
abbrev pub rest : List ℕ → ℕ → Rest
rest text room = record { text = text; room = room }

abbrev pub word : List ℕ → ℕ → Word
word bytes left = record { bytes = bytes; left = left }

-- A word behind a space is the next one of its line.
pub record IsNext (bytes behind : List ℕ) (r : Rest) : Type 0 where
  pub next : next_word r ≡ word bytes (length (bytes ++ behind))
  pub after : behind_next r ≡ rest behind r.room
  pub more : is_at_end r ≡ false

abbrev pub NextWordComesBack : Type 0
NextWordComesBack = (bytes behind : List ℕ) (room : ℕ) → is_word bytes ≡ true → at_gap behind ≡ true → IsNext bytes behind (rest (32 ∷ bytes ++ behind) room)

-- The first word of a line: blanks and lines before it are skipped by computing.
pub record IsFirst (bytes behind text : List ℕ) : Type 0 where
  pub lines : behind_lines text ≡ text
  pub first : word_at text ≡ bytes
  pub after : behind_word text ≡ behind

abbrev pub FirstWordComesBack : Type 0
FirstWordComesBack = (bytes behind : List ℕ) → is_word bytes ≡ true → at_gap behind ≡ true → IsFirst bytes behind (bytes ++ behind)

-- The line of a place is skipped, indented or not.
abbrev pub CommentIsSkipped : Type 0
CommentIsSkipped = (place : ℕ) (text : List ℕ) → place < 2 ^ 64 → behind_lines ((codes "# " ++ decimal place ++ codes "\n") ++ text) ≡ behind_lines text

-- Numbers in words.
abbrev pub DecimalIsWord : Type 0
DecimalIsWord = (n : ℕ) → n < 2 ^ 64 → is_word (decimal n) ≡ true

abbrev pub HexadecimalIsWord : Type 0
HexadecimalIsWord = (n : ℕ) → n < 2 ^ 64 → is_word (hexadecimal n) ≡ true

abbrev pub DecimalComesBack : Type 0
DecimalComesBack = (bits n left : ℕ) → n ≤ greatest bits → number bits (word (decimal n) left) ≡ Ok n

abbrev pub HexadecimalComesBack : Type 0
HexadecimalComesBack = (bits n left : ℕ) → n ≤ greatest bits → number bits (word (hexadecimal n) left) ≡ Ok n

abbrev pub CountComesBack : Type 0
CountComesBack = (n left : ℕ) → 0 < n → n < 2 ^ 64 → count_at (word (decimal n) left) ≡ Ok n

-- The value behind a key.
abbrev pub ValueComesBack : Type 0
ValueComesBack = (key value : List ℕ) (left : ℕ) → value_at (word (key ++ codes "=" ++ value) left) key ≡ Some (word value (left - (length key + 1)))

-- Paths.
abbrev pub PathComesBack : Type 0
PathComesBack = (path : List ℕ) (left : ℕ) → IsBytes path → 0 < length path → length path ≤ 65535 → path_at (word (path_text path) left) ≡ Ok path

abbrev pub PathIsWord : Type 0
PathIsWord = (path : List ℕ) → IsBytes path → is_word (path_text (47 ∷ path)) ≡ true

-- What stands before each string of many: blanks, whatever follows.
abbrev pub IsIndent : List ℕ → Type 0
IsIndent line = (text : List ℕ) → (behind_blanks (line ++ text) ≡ behind_blanks text) × (at_gap (line ++ text) ≡ true)

-- All strings of a line that shows all bytes.
abbrev pub StringsComeBack : Type 0
StringsComeBack =
    (look : Look) (line bytes behind : List ℕ) (room : ℕ) → look.first ≡ None → IsIndent line → IsBytes bytes → length bytes ≤ room → room < 2 ^ 64
    → strings_of (rest (data_text look line bytes ++ 10 ∷ behind) room) ≡ Ok (bytes, rest (10 ∷ behind) (room - length bytes))
