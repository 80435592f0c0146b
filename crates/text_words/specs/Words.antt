-- The model: the lines and words of a text.
use Rattle.std.specs.Prelude.{ℕ, ◌+◌, ◌-◌, ◌==◌, ◌||◌, ◌&&◌, not, Bool, true, false, List, [], ◌∷◌, length, drop, nat_eq, Option, None, Some, Result, Ok, Err, slice_index, if◌then◌else◌}
use Rattle.std.specs.List.{starts_with, before_first, after_first, position_or_len}
use Rattle.text_words.specs.declared.fault.Fault.{Fault}
use Rattle.text_words.specs.declared.fault.Reason.TheVariants.{End}
use Rattle.text_words.specs.Read.{Rest, Word, fault}

-- a byte between words of a line: a space, a tab or a carriage return
abbrev pub is_blank : ℕ → Bool
is_blank b = b == 32 || b == 9 || b == 13

-- a byte behind a word: the end of the line, too
abbrev pub is_gap : ℕ → Bool
is_gap b = is_blank b || b == 10

-- What is left behind blanks. A backslash with nothing but blanks up to the end of its line is a blank: what is left from the last
-- backslash on is kept until that is known.
abbrev pub behind_blanks_from : Option (List ℕ) → List ℕ → List ℕ
behind_blanks_from slash [] = []
behind_blanks_from None (b ∷ text) =
    if b == 92 then behind_blanks_from (Some (b ∷ text)) text else if is_blank b then behind_blanks_from None text else b ∷ text
behind_blanks_from (Some slash) (b ∷ text) =
    if b == 10 then behind_blanks_from None text else if is_blank b then behind_blanks_from (Some slash) text else slash

unfoldable pub behind_blanks : List ℕ → List ℕ
behind_blanks text = behind_blanks_from None text

-- What is left behind blanks, empty lines and comments: whether a comment has begun.
abbrev pub behind_lines_from : Bool → List ℕ → List ℕ
behind_lines_from comment [] = []
behind_lines_from true (b ∷ text) = behind_lines_from (not (b == 10)) text
behind_lines_from false (b ∷ text) = if is_gap b then behind_lines_from false text else if b == 35 then behind_lines_from true text else b ∷ text

unfoldable pub behind_lines : List ℕ → List ℕ
behind_lines text = behind_lines_from false text

-- the word that a text begins with, and what is left behind it
unfoldable pub word_at : List ℕ → List ℕ
word_at text = before_first is_gap text

unfoldable pub behind_word : List ℕ → List ℕ
behind_word text = drop (position_or_len is_gap text) text

-- the first word of the next line that has one, none at the end of the text, and what is left behind it
abbrev pub first_word : Rest → Word
first_word r = record { bytes = word_at (behind_lines r.text); left = length (behind_lines r.text) }

abbrev pub behind_first : Rest → Rest
behind_first r = record { text = behind_word (behind_lines r.text); room = r.room }

-- the next word of a line, and what is left behind it
abbrev pub next_word : Rest → Word
next_word r = record { bytes = word_at (behind_blanks r.text); left = length (behind_blanks r.text) }

abbrev pub behind_next : Rest → Rest
behind_next r = record { text = behind_word (behind_blanks r.text); room = r.room }

-- the line has no word more: a comment or its end follows
abbrev pub ends_line : List ℕ → Bool
ends_line [] = true
ends_line (b ∷ text) = b == 10 || b == 35

abbrev pub is_at_end : Rest → Bool
is_at_end r = ends_line (behind_blanks r.text)

-- what is left behind the line, which has no word more
unfoldable pub line_end : Rest → Result Rest Fault
line_end r =
    if is_at_end r then Ok (record { text = after_first (λ b. b == 10) (behind_blanks r.text); room = r.room })
    else Err (fault End (length (behind_blanks r.text)))

-- a word without its first bytes
abbrev pub word_behind : ℕ → Word → Word
word_behind n word = record { bytes = drop n word.bytes; left = word.left - n }

-- what follows a key and the sign behind it, where the word begins with them
unfoldable pub value_at : Word → List ℕ → Option Word
value_at word key = if starts_with nat_eq word.bytes key && slice_index word.bytes (length key) == 61 then Some (word_behind (length key + 1) word) else None
