-- The model: the line of an entry, with strings, with zeros, or with what is given of it.
use Rattle.std.specs.Prelude.{ℕ, ◌-◌, ◌^◌, ◌==◌, ◌&&◌, ◌||◌, not, nat_lt, Bool, true, false, length, Option, None, Some, Result, Ok, bit_and, codes, is_some, option_map, if◌then◌else◌}
use Rattle.std.specs.Int.{w32, cast_signed}
use Rattle.sqe_codec.specs.declared.sqe.Sqe.{Sqe}
use Rattle.trace_format.specs.declared.fault.Kind.TheVariants.{Side}
use Rattle.trace_format.specs.declared.given.Given.{Given}
use Rattle.trace_format.specs.declared.given.Given.TheVariants as given
use Rattle.trace_records.specs.declared.record.Beside.{Beside}
use Rattle.trace_records.specs.declared.record.Beside.TheVariants.{Stored, Zeros}
use Rattle.trace_records.specs.declared.record.Beside.TheVariants as beside
use Rattle.trace_records.specs.declared.record.Entry.{Entry}
use Rattle.trace_records.specs.Records.{lengths_len}
use Rattle.text_words.specs.declared.fault.Fault.{Fault}
use Rattle.text_words.specs.declared.fault.Reason.TheVariants as why
use Rattle.text_words.specs.Numbers.{number}
use Rattle.text_words.specs.Read.{Rest, Word, ◌>>=◌, fault, refuse_if, repeated}
use Rattle.text_words.specs.Strings.{is_string}
use Rattle.text_words.specs.Words.{behind_next, is_at_end, line_end, next_word, value_at}
use Rattle.text_trace.specs.declared.fields.Field.TheVariants as field
use Rattle.text_trace.specs.Entry.{Draft, add_next, draft_of, empty, fields_of, mark_of, side_of}
use Rattle.text_records.specs.declared.entry.Told as code
use Rattle.text_records.specs.declared.entry.Manner.{Manner}
use Rattle.text_records.specs.declared.entry.Manner.TheVariants.{Passes, Fails, IsRefused}

-- What the words of an entry have said so far: how many bytes beside it are zeros, but for lengths; that there are strings; what is given of it.
pub record Told : Type 0 where
  pub draft : Draft
  pub zeros : Option ℕ
  pub has_strings : Bool
  pub outcome : Option Given

-- how many bytes are zeros, once and without strings
unfoldable pub add_zeros : Told → Word → Word → Result Told Fault
add_zeros t word value = do
  _ ← refuse_if (is_some t.zeros) (fault why.FieldTwice word.left)
  _ ← refuse_if t.has_strings (fault why.Both word.left)
  n ← number 32 value
  Ok (record t { zeros = Some n })

-- how a word says that an entry is given, with what stands behind its key
abbrev pub manner_of : Word → Option (Manner × Word)
manner_of word = elim (value_at word (codes "given")) [
  | Some value ↦ Some (Passes, value)
  | None ↦ elim (value_at word (codes "failed")) [
    | Some value ↦ Some (Fails, value)
    | None ↦ option_map (λ value. (IsRefused, value)) (value_at word (codes "refused"))
  ]
]

-- an error: a result from -4,095 to -1
unfoldable pub error_at : Word → Result Given Fault
error_at value = do
  n ← number 32 value
  _ ← refuse_if (nat_lt n (2 ^ 32 - 4095)) (fault why.Error value.left)
  Ok (given.Refused (2 ^ 32 - n))

-- a result, or an error
unfoldable pub given_at : Manner → Word → Result Given Fault
given_at Passes value = number 32 value >>= λ n. Ok (given.Passed (cast_signed w32 n) false)
given_at Fails value = number 32 value >>= λ n. Ok (given.Passed (cast_signed w32 n) true)
given_at IsRefused value = error_at value

-- what is given, once
unfoldable pub add_given : Told → Word → Manner → Word → Result Told Fault
add_given t word manner value = do
  _ ← refuse_if (is_some t.outcome) (fault why.FieldTwice word.left)
  g ← given_at manner value
  Ok (record t { outcome = Some g })

-- the next word, which an entry of any version has
unfoldable pub add_other : Told → Rest → Result (Told × Rest) Fault
add_other t r = do
  _ ← refuse_if (is_string r && is_some t.zeros) (fault why.Both (next_word r).left)
  x ← add_next t.draft r
  Ok (record t { draft = x.0; has_strings = t.has_strings || is_string r }, x.1)

-- the next word
unfoldable pub one_word : Told → Rest → Result (Told × Rest) Fault
one_word t r = elim (value_at (next_word r) (codes "zeros")) [
  | Some value ↦ add_zeros t (next_word r) value >>= λ more. Ok (more, behind_next r)
  | None ↦ elim (manner_of (next_word r)) [
    | Some m ↦ add_given t (next_word r) m.0 m.1 >>= λ more. Ok (more, behind_next r)
    | None ↦ add_other t r
  ]
]

-- the same, up to the end of the line
abbrev pub more_words : Told × Rest → Option (Result (Told × Rest) Fault)
more_words s = if is_at_end s.1 then None else Some (one_word s.0 s.1)

-- all words up to the end of the line
unfoldable pub all_words : Told → Rest → Result (Told × Rest) Fault
all_words t r = repeated (length r.text) more_words (t, r)

-- the fields: a WRITE of zeros has as many bytes as are told, unless its length is
unfoldable pub sqe_of : Told → Sqe
sqe_of t = elim t.zeros [
  | None ↦ fields_of t.draft
  | Some n ↦
      if t.draft.sqe.opcode == 23 && bit_and t.draft.given (mark_of field.Len) == 0 then record t.draft.sqe { len = n }
      else fields_of t.draft
]

-- What stands beside an entry with strings or zeros. Before zeros only the lengths can stand that the entry has.
unfoldable pub bytes_of : Told → ℕ → Result Beside Fault
bytes_of t left = elim t.zeros [
  | None ↦ Ok (Stored (side_of t.draft))
  | Some n ↦ refuse_if (not (length (side_of t.draft) == lengths_len (sqe_of t) n)) (fault (why.Trace Side) left) >>= λ _. Ok (Zeros (side_of t.draft) n)
]

-- What stands beside an entry; beside one that is given nothing does.
unfoldable pub beside_of : Told → ℕ → Result Beside Fault
beside_of t left = elim t.outcome [
  | None ↦ bytes_of t left
  | Some g ↦ refuse_if (is_some t.zeros || not (length (side_of t.draft) == 0)) (fault (why.Trace Side) left) >>= λ _. Ok (beside.Given g)
]

-- an entry of an operation, whose line begins where so many bytes of the text are left
unfoldable pub entry_of : ℕ → ℕ → Rest → Result (Entry × Rest) Fault
entry_of left opcode r = do
  s ← all_words (record { draft = empty opcode; zeros = None; has_strings = false; outcome = None }) r
  rest ← line_end s.1
  beside ← beside_of s.0 left
  Ok (record { sqe = sqe_of s.0; beside = beside }, rest)

-- what words have said, as code has it
abbrev pub told_of : code.Told → Told
told_of t = record { draft = draft_of t.draft; zeros = t.zeros; has_strings = t.has_strings; outcome = t.outcome }
