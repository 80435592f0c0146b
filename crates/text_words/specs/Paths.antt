-- The model: paths of a text.
use Rattle.std.specs.Prelude.{ℕ, ◌+◌, ◌-◌, ◌*◌, ◌==◌, ◌&&◌, nat_lt, nat_eq, List, [], ◌∷◌, ◌++◌, length, drop, Option, None, Some, Result, Ok, codes, slice_index, if◌then◌else◌}
use Rattle.std.specs.List.{starts_with}
use Rattle.text_forms.specs.Strings.{is_visible}
use Rattle.text_words.specs.declared.fault.Fault.{Fault}
use Rattle.text_words.specs.declared.fault.Reason.TheVariants as why
use Rattle.text_words.specs.Numbers.{digit_value}
use Rattle.text_words.specs.Read.{Word, ◌>>=◌, fault, known, refuse_if, repeated}

-- the byte that a text begins with two digits of
unfoldable pub hex_byte : List ℕ → Option ℕ
hex_byte text =
    if nat_lt (digit_value (slice_index text 0)) 16 && nat_lt (digit_value (slice_index text 1)) 16
    then Some (16 * digit_value (slice_index text 0) + digit_value (slice_index text 1)) else None

-- the byte of an escape by its digits, behind \x
unfoldable pub hex_escape : List ℕ → Option ℕ
hex_escape text = if starts_with nat_eq text (codes "\\x") then hex_byte (drop 2 text) else None

-- the first byte of a path, and how many letters are it: none where that is no letter of a path
unfoldable pub path_letter : List ℕ → Option (ℕ × ℕ)
path_letter text = elim (hex_escape text) [
  | Some byte ↦ Some (byte, 4)
  | None ↦ if is_visible (slice_index text 0) then Some (slice_index text 0, 1) else None
]

-- one byte more of the path of a word, and what is left of the word
unfoldable pub path_byte : Word → List ℕ → List ℕ → Result (List ℕ × List ℕ) Fault
path_byte word path rest = do
  x ← known (path_letter rest) (fault why.PathLetter (word.left - (length word.bytes - length rest)))
  Ok (path ++ x.0 ∷ [], drop x.1 rest)

-- the same, up to the end of the word
abbrev pub more_path : Word → List ℕ × List ℕ → Option (Result (List ℕ × List ℕ) Fault)
more_path word s = if length s.1 == 0 then None else Some (path_byte word s.0 s.1)

-- the bytes that the letters of a word are
unfoldable pub letters_of : Word → Result (List ℕ) Fault
letters_of word = do
  s ← repeated (length word.bytes) (more_path word) ([], word.bytes)
  Ok s.0

-- a path: from 1 byte on, and at most 65,535
unfoldable pub path_at : Word → Result (List ℕ) Fault
path_at word = do
  _ ← refuse_if (length word.bytes == 0) (fault why.Path word.left)
  path ← letters_of word
  _ ← refuse_if (nat_lt 65535 (length path)) (fault why.PathLong word.left)
  Ok path
