-- The model: the lines of slots and descriptors.
use Rattle.std.specs.Prelude.{ℕ, ◌+◌, ◌==◌, nat_le, nat_lt, nat_eq, List, [], ◌∷◌, ◌++◌, length, Option, None, Some, Result, Ok, codes, if◌then◌else◌}
use Rattle.std.specs.List.{before_first, starts_with}
use Rattle.trace_records.specs.declared.record.FullSlot.{FullSlot}
use Rattle.trace_records.specs.declared.record.Holder.{Holder}
use Rattle.trace_records.specs.declared.record.Holder.TheVariants as holder
use Rattle.text_words.specs.declared.fault.Fault.{Fault}
use Rattle.text_words.specs.declared.fault.Reason.TheVariants as why
use Rattle.text_words.specs.Numbers.{number}
use Rattle.text_words.specs.Read.{Rest, Word, ◌>>=◌, fault, refuse_if, repeated}
use Rattle.text_words.specs.Words.{behind_first, behind_next, is_at_end, line_end, next_word, word_behind}
use Rattle.text_trace.specs.Lines.{empty_slots}
use Rattle.text_records.specs.declared.slots.Table.{Table}
use Rattle.text_records.specs.declared.slots.Table.TheVariants as table
use Rattle.text_records.specs.declared.slots.Slots.{Slots}

-- what stands before the first colon of a word
abbrev pub ring_part : Word → List ℕ
ring_part word = before_first (λ b. b == 58) word.bytes

-- what descriptor N holds, by fd:N
unfoldable pub descriptor_at : Word → Result Holder Fault
descriptor_at word = do
  n ← number 32 (word_behind 3 word)
  Ok (holder.Descriptor n)

-- what slot N of ring R holds, by R:N
unfoldable pub slot_at : Word → Result Holder Fault
slot_at word = do
  ring ← number 32 (record { bytes = ring_part word; left = word.left })
  n ← number 32 (word_behind (length (ring_part word) + 1) word)
  Ok (holder.Slot ring n)

-- a description of the start by its number
unfoldable pub description_at : Word → Result Holder Fault
description_at word = do
  n ← number 32 word
  Ok (holder.Description n)

-- what a slot of a ring gets
unfoldable pub holder_at : Word → Result Holder Fault
holder_at word =
    if starts_with nat_eq word.bytes (codes "fd:") then descriptor_at word
    else if nat_lt (length (ring_part word)) (length word.bytes) then slot_at word
    else description_at word

-- what a full entry of a table gets: an ordinary descriptor has a description
abbrev pub held_at : Table → Word → Result Holder Fault
held_at table.Descriptors word = description_at word
held_at table.Slots word = holder_at word

-- Below, what is read are the number of entries of a table and its full ones.

-- a full one behind others: at most 1,048,576 entries in all
unfoldable pub add_full : Table → ℕ × List FullSlot → Word → Result (ℕ × List FullSlot) Fault
add_full t s word = do
  holds ← held_at t word
  _ ← refuse_if (nat_le 1048576 s.0) (fault why.TooMany word.left)
  Ok (s.0 + 1, s.1 ++ record { number = s.0; holds = holds } ∷ [])

-- the entries of a word behind others
unfoldable pub add_slots : Table → ℕ × List FullSlot → Word → Result (ℕ × List FullSlot) Fault
add_slots t s word = do
  empty ← empty_slots word
  elim empty [
    | None ↦ add_full t s word
    | Some count ↦ refuse_if (nat_lt 1048576 (s.0 + count)) (fault why.TooMany word.left) >>= λ _. Ok (s.0 + count, s.1)
  ]

-- one word more
unfoldable pub next_slots : Table → ℕ × List FullSlot → Rest → Result ((ℕ × List FullSlot) × Rest) Fault
next_slots t s r = do
  more ← add_slots t s (next_word r)
  Ok (more, behind_next r)

-- the same, up to the end of the line
abbrev pub more_slots : Table → (ℕ × List FullSlot) × Rest → Option (Result ((ℕ × List FullSlot) × Rest) Fault)
more_slots t s = if is_at_end s.1 then None else Some (next_slots t s.0 s.1)

-- all words of a line
unfoldable pub all_slots : Table → Rest → Result ((ℕ × List FullSlot) × Rest) Fault
all_slots t r = repeated (length r.text) (more_slots t) ((0, []), r)

-- the line of a table, which has one word at least
unfoldable pub slots_line : Table → Rest → Result ((ℕ × List FullSlot) × Rest) Fault
slots_line t r = do
  _ ← refuse_if (is_at_end (behind_first r)) (fault why.Slot (next_word (behind_first r)).left)
  slots ← all_slots t (behind_first r)
  rest ← line_end slots.1
  Ok (slots.0, rest)

-- entries, as code has them
abbrev pub slots_of : Slots → ℕ × List FullSlot
slots_of s = (s.count, s.full.items)
