-- The model: the lines of sets and seeks.
use Rattle.std.specs.Prelude.{ℕ, Option, None, Some, Result, Ok, codes, unwrap_or, if◌then◌else◌}
use Rattle.std.specs.Str.{bytes_eq}
use Rattle.trace_records.specs.declared.record.Content.{Content}
use Rattle.trace_records.specs.declared.record.Content.TheVariants as contents
use Rattle.trace_records.specs.declared.record.FileAt.{FileAt}
use Rattle.trace_records.specs.declared.record.FileAt.TheVariants as files
use Rattle.trace_records.specs.declared.record.Holder.{Holder}
use Rattle.trace_records.specs.declared.record.Holder.TheVariants as holder
use Rattle.trace_records.specs.declared.record.Record.{Record}
use Rattle.trace_records.specs.declared.record.Record.TheVariants.{Seek, Set}
use Rattle.trace_text.specs.declared.names.FlagSet.TheVariants.{Open}
use Rattle.text_words.specs.declared.fault.Fault.{Fault}
use Rattle.text_words.specs.declared.fault.Reason.TheVariants as why
use Rattle.text_words.specs.declared.numbers.Style.TheVariants.{Flags}
use Rattle.text_words.specs.Numbers.{number, number_at}
use Rattle.text_words.specs.Paths.{path_at}
use Rattle.text_words.specs.Read.{Rest, Word, ◌>>=◌, fault, known}
use Rattle.text_words.specs.Words.{behind_first, behind_next, line_end, next_word, value_at}
use Rattle.text_trace.specs.Lines.{keyed}
use Rattle.text_records.specs.Slots.{holder_at}

-- a slot or a descriptor is told as where a slot of a ring gets its content from; a description is neither
abbrev pub file_of : Holder → Option FileAt
file_of (holder.Slot ring number) = Some (files.Slot ring number)
file_of (holder.Descriptor number) = Some (files.Descriptor number)
file_of (holder.Description number) = None

unfoldable pub file_at : Word → Result FileAt Fault
file_at word = do
  h ← holder_at word
  known (file_of h) (fault why.File word.left)

-- the next word, which is a slot or a descriptor
unfoldable pub next_file : Rest → Result (FileAt × Rest) Fault
next_file r = do
  file ← file_at (next_word r)
  Ok (file, behind_next r)

-- flags of openat, where the next word has them
unfoldable pub open_flags : Rest → Result (Option ℕ × Rest) Fault
open_flags r = elim (value_at (next_word r) (codes "open_flags")) [
  | None ↦ Ok (None, r)
  | Some value ↦ number_at (Flags Open) 32 value >>= λ n. Ok (Some n, behind_next r)
]

-- a path, and the flags and the position of its new description
unfoldable pub opened_of : Rest → Result (Content × Rest) Fault
opened_of r = do
  value ← known (value_at (next_word r) (codes "path")) (fault why.Content (next_word r).left)
  path ← path_at value
  flags ← open_flags (behind_next r)
  position ← keyed 64 (codes "pos") flags.1
  Ok (contents.Path (unwrap_or flags.0 0) (unwrap_or position.0 0) path, position.1)

-- what another slot or descriptor holds, or a path
unfoldable pub held_of : Rest → Result (Content × Rest) Fault
held_of r = elim (value_at (next_word r) (codes "of")) [
  | None ↦ opened_of r
  | Some value ↦ file_at value >>= λ of. Ok (contents.Copy of, behind_next r)
]

-- what a slot or a descriptor holds
abbrev pub content_of : Rest → Result (Content × Rest) Fault
content_of r =
    if bytes_eq (next_word r).bytes (codes "nothing") then Ok (contents.Nothing, behind_next r)
    else if bytes_eq (next_word r).bytes (codes "taken") then Ok (contents.Taken, behind_next r)
    else held_of r

-- the record of a `set`
unfoldable pub set_of : Rest → Result (Record × Rest) Fault
set_of r = do
  file ← next_file (behind_first r)
  content ← content_of file.1
  rest ← line_end content.1
  Ok (Set file.0 content.0, rest)

-- the record of a `seek`
unfoldable pub seek_of : Rest → Result (Record × Rest) Fault
seek_of r = do
  file ← next_file (behind_first r)
  value ← known (value_at (next_word file.1) (codes "pos")) (fault why.Position (next_word file.1).left)
  position ← number 64 value
  rest ← line_end (behind_next file.1)
  Ok (Seek file.0 position, rest)
