-- The model: the line of an entry.
use Rattle.std.specs.Prelude.{ℕ, ◌+◌, ◌-◌, ◌/◌, ◌^◌, ◌==◌, ◌&&◌, ◌||◌, not, nat_lt, nat_eq, min, Bool, true, false, List, [], ◌++◌, length, take, drop, Option, None, Some, Result, Ok, Err, bit_and, bit_or, codes, is_some, unwrap_or, option_map, slice_index, if◌then◌else◌}
use Rattle.std.specs.Int.{cast_signed, to_le_bytes, w16, w32, w64}
use Rattle.std.specs.List.{before_first, slice_split, starts_with}
use Rattle.std.specs.Str.{bytes_eq}
use Rattle.sqe_codec.specs.declared.sqe.Sqe.{Sqe}
use Rattle.text_words.specs.declared.fault.Fault.{Fault}
use Rattle.text_words.specs.declared.fault.Reason.TheVariants as why
use Rattle.text_words.specs.Numbers.{number, number_at}
use Rattle.text_words.specs.Paths.{letters_of}
use Rattle.text_words.specs.Read.{Rest, Word, ◌>>=◌, fault, known, refuse_if, repeated, taken}
use Rattle.text_words.specs.Strings.{is_string, more_string}
use Rattle.text_words.specs.Words.{behind_next, is_at_end, line_end, next_word, value_at}
use Rattle.text_trace.specs.declared.entry.Draft.{Draft as DraftOf}
use Rattle.text_trace.specs.declared.fields.Field.{Field}
use Rattle.text_trace.specs.declared.fields.Field.TheVariants as field
use Rattle.text_trace.specs.Fields.{bits_of, entry_flag_of, field_of, style_of}

-- What the words of an entry have said so far: its fields, those of them that were told, a bit each, and what stands beside it.
pub record Draft : Type 0 where
  pub sqe : Sqe
  pub given : ℕ
  pub path : Option (List ℕ)
  pub old_path : Option (List ℕ)
  pub new_path : Option (List ℕ)
  pub lengths : Option (List ℕ)
  pub strings : List ℕ

-- nothing but the operation
abbrev pub empty : ℕ → Draft
empty opcode = record {
  sqe = record { opcode = opcode; flags = 0; ioprio = 0; fd = cast_signed w32 0; off = 0; addr = 0; len = 0; op_flags = 0; user_data = 0; buf_index = 0; personality = 0; file_index = 0; addr3 = 0; last = 0 };
  given = 0;
  path = None;
  old_path = None;
  new_path = None;
  lengths = None;
  strings = [];
}

-- the bit of a field among those that were told
abbrev pub mark_of : Field → ℕ
mark_of field.Fd = 1
mark_of field.Off = 2
mark_of field.Addr = 4
mark_of field.Len = 8
mark_of field.OpFlags = 16
mark_of field.BufIndex = 32
mark_of field.FileIndex = 64
mark_of field.Ioprio = 128
mark_of field.Personality = 256
mark_of field.Addr3 = 512
mark_of field.Pad = 1024
mark_of field.UserData = 2048

-- a field with a number
abbrev pub with_field : Sqe → Field → ℕ → Sqe
with_field e field.Fd n = record e { fd = cast_signed w32 n }
with_field e field.Off n = record e { off = n }
with_field e field.Addr n = record e { addr = n }
with_field e field.Len n = record e { len = n }
with_field e field.OpFlags n = record e { op_flags = n }
with_field e field.BufIndex n = record e { buf_index = n }
with_field e field.FileIndex n = record e { file_index = n }
with_field e field.Ioprio n = record e { ioprio = n }
with_field e field.Personality n = record e { personality = n }
with_field e field.Addr3 n = record e { addr3 = n }
with_field e field.Pad n = record e { last = n }
with_field e field.UserData n = record e { user_data = n }

-- a field that is told, once
unfoldable pub add_field : Draft → Field → Word → Word → Result Draft Fault
add_field d field word value = do
  _ ← refuse_if (not (bit_and d.given (mark_of field) == 0)) (fault why.FieldTwice word.left)
  n ← number_at (style_of d.sqe.opcode field) (bits_of field) value
  Ok (record d { sqe = with_field d.sqe field n; given = bit_or d.given (mark_of field) })

-- A path beside an entry, which may be empty, where none was told before. Two bytes count the first one of two.
unfoldable pub first_path : Bool → Option (List ℕ) → Word → Word → Result (Option (List ℕ)) Fault
first_path is_counted before word value = do
  _ ← refuse_if (is_some before) (fault why.FieldTwice word.left)
  path ← letters_of value
  _ ← refuse_if (is_counted && nat_lt 65535 (length path)) (fault why.PathLong value.left)
  Ok (Some path)

-- one length more, 8 bytes, of a part that begins where so many bytes of the text are left
unfoldable pub more_lengths : List ℕ × ℕ → List ℕ → Result (List ℕ × ℕ) Fault
more_lengths s part = do
  n ← number 64 (record { bytes = part; left = s.1 })
  Ok (s.0 ++ to_le_bytes w64 n, s.1 - (length part + 1))

-- brackets round something
abbrev pub has_brackets : List ℕ → Bool
has_brackets word = not (nat_lt (length word) 2) && starts_with nat_eq word (codes "[") && slice_index word (length word - 1) == 93

-- what stands between them
abbrev pub inside : List ℕ → List ℕ
inside word = take (length (drop 1 word) - 1) (drop 1 word)

-- lengths between brackets, with commas between them
unfoldable pub lengths_at : Word → Result (List ℕ) Fault
lengths_at word = do
  _ ← refuse_if (not (has_brackets word.bytes)) (fault why.Lengths word.left)
  s ← taken more_lengths ([], word.left - 1) (slice_split (λ b. b == 44) (inside word.bytes))
  Ok s.0

unfoldable pub add_lengths : Draft → Word → Result Draft Fault
add_lengths d word = do
  _ ← refuse_if (is_some d.lengths) (fault why.FieldTwice word.left)
  lengths ← lengths_at word
  Ok (record d { lengths = Some lengths })

-- a flag of the entry, once
unfoldable pub add_flag : Draft → ℕ → Word → Result Draft Fault
add_flag d flag word = do
  _ ← refuse_if (not (bit_and d.sqe.flags flag == 0)) (fault why.FlagTwice word.left)
  Ok (record d { sqe = record d.sqe { flags = bit_or d.sqe.flags flag } })

-- what stands before the first sign of equality
abbrev pub key_of : List ℕ → List ℕ
key_of word = before_first (λ b. b == 61) word

-- a word that is the key of a field and its number
unfoldable pub add_number : Draft → Word → Result Draft Fault
add_number d word = do
  field ← known (field_of d.sqe.opcode (key_of word.bytes)) (fault why.Field word.left)
  value ← known (value_at word (key_of word.bytes)) (fault why.Field word.left)
  add_field d field word value

-- a word that is a key and a value
unfoldable pub add_keyed : Draft → Word → Result Draft Fault
add_keyed d word = elim (value_at word (codes "path")) [
  | Some value ↦ first_path false d.path word value >>= λ path. Ok (record d { path = path })
  | None ↦ elim (value_at word (codes "old")) [
    | Some value ↦ first_path true d.old_path word value >>= λ path. Ok (record d { old_path = path })
    | None ↦ elim (value_at word (codes "new")) [
      | Some value ↦ first_path false d.new_path word value >>= λ path. Ok (record d { new_path = path })
      | None ↦ add_number d word
    ]
  ]
]

-- a word that is no string
unfoldable pub add_word : Draft → Word → Result Draft Fault
add_word d word = elim (entry_flag_of word.bytes) [
  | Some flag ↦ add_flag d flag word
  | None ↦
      if starts_with nat_eq word.bytes (codes "[") then add_lengths d word
      else if bytes_eq word.bytes (codes "...") then Err (fault why.Cut word.left)
      else add_keyed d word
]

-- the next word
unfoldable pub add_next : Draft → Rest → Result (Draft × Rest) Fault
add_next d r =
    if is_string r then (more_string d.strings r >>= λ s. Ok (record d { strings = s.0 }, s.1))
    else (add_word d (next_word r) >>= λ more. Ok (more, behind_next r))

-- the same, up to the end of the line
abbrev pub more_words : Draft × Rest → Option (Result (Draft × Rest) Fault)
more_words s = if is_at_end s.1 then None else Some (add_next s.0 s.1)

-- all words up to the end of the line
unfoldable pub add_all : Draft → Rest → Result (Draft × Rest) Fault
add_all d r = repeated (length r.text) more_words (d, r)

-- and the end of the line
unfoldable pub add_words : Draft → Rest → Result (Draft × Rest) Fault
add_words d r = do
  s ← add_all d r
  rest ← line_end s.1
  Ok (s.0, rest)

-- how many bytes there are, as two bytes
abbrev pub len_bytes : List ℕ → List ℕ
len_bytes bytes = to_le_bytes w16 (min (length bytes) 65535)

-- two paths, the length of the first one in front
abbrev pub two_paths : Option (List ℕ) → Option (List ℕ) → List ℕ
two_paths old new = if is_some old || is_some new then len_bytes (unwrap_or old []) ++ unwrap_or old [] ++ unwrap_or new [] else []

-- the bytes beside an entry: lengths, paths, and what it writes
unfoldable pub side_of : Draft → List ℕ
side_of d = unwrap_or d.lengths [] ++ unwrap_or d.path [] ++ two_paths d.old_path d.new_path ++ d.strings

-- the length that an entry has where none is told
abbrev pub default_len : Draft → ℕ
default_len d =
    if d.sqe.opcode == 23 then min (length d.strings) (2 ^ 32 - 1)
    else if d.sqe.opcode == 1 || d.sqe.opcode == 2 then min (length (unwrap_or d.lengths []) / 8) (2 ^ 32 - 1)
    else 0

-- the fields of an entry
unfoldable pub fields_of : Draft → Sqe
fields_of d = if bit_and d.given (mark_of field.Len) == 0 then record d.sqe { len = default_len d } else d.sqe

-- an entry of an operation, and the bytes beside it
unfoldable pub entry_of : ℕ → Rest → Result (Sqe × List ℕ × Rest) Fault
entry_of opcode r = do
  s ← add_words (empty opcode) r
  Ok (fields_of s.0, side_of s.0, s.1)

-- a draft, as code has it
abbrev pub draft_of : DraftOf → Draft
draft_of d = record {
  sqe = d.sqe;
  given = d.given;
  path = option_map (λ v. v.items) d.path;
  old_path = option_map (λ v. v.items) d.old_path;
  new_path = option_map (λ v. v.items) d.new_path;
  lengths = option_map (λ v. v.items) d.lengths;
  strings = d.data.items;
}
