-- The model: the records of a text.
use Rattle.std.specs.Prelude.{ℕ, ◌-◌, min, List, [], ◌∷◌, ◌++◌, length, Option, None, Some, Result, Ok, option_map, codes, if◌then◌else◌}
use Rattle.std.specs.Str.{bytes_eq}
use Rattle.trace_format.specs.declared.entry.Entry.{Entry}
use Rattle.trace_format.specs.declared.trace.Record.{Record}
use Rattle.trace_format.specs.declared.trace.Record.TheVariants.{Enter}
use Rattle.trace_format.specs.Counts.{places_in, places_limit}
use Rattle.text_words.specs.declared.fault.Fault.{Fault}
use Rattle.text_words.specs.Read.{Rest, ◌>>=◌, repeated}
use Rattle.text_words.specs.Words.{behind_first, first_word}
use Rattle.text_trace.specs.declared.lines.Step.{Step}
use Rattle.text_trace.specs.declared.lines.Step.TheVariants as step
use Rattle.text_trace.specs.Entry.{entry_of}
use Rattle.text_trace.specs.Fields.{opcode_of}
use Rattle.text_trace.specs.Lines.{enter_line, fill_of}
use Rattle.text_trace.specs.Parts.{room_for, with_line}

-- one entry more, where a record has at most so many
unfoldable pub one_entry : ℕ → List Entry × List ℕ × Rest → ℕ → Result (List Entry × List ℕ × Rest) Fault
one_entry most s opcode = do
  _ ← room_for most (length s.0) s.2
  x ← entry_of opcode (behind_first s.2)
  Ok (s.0 ++ record { sqe = x.0; side = x.1; given = None } ∷ [], with_line s.1 s.2, x.2)

abbrev pub more_entries : ℕ → List Entry × List ℕ × Rest → Option (Result (List Entry × List ℕ × Rest) Fault)
more_entries most s = option_map (one_entry most s) (opcode_of (first_word s.2).bytes)

-- the entries behind one line `enter`, behind so many steps of the trace
unfoldable pub entries_of : ℕ → List ℕ → Rest → Result (List Entry × List ℕ × Rest) Fault
entries_of used lines r = repeated (length r.text) (more_entries (min 32768 (places_limit - used))) ([], lines, r)

-- the record of an `enter`
unfoldable pub enter_of : ℕ → List ℕ → Rest → Result (Record × List ℕ × Rest) Fault
enter_of used lines r = do
  ring ← enter_line r
  s ← entries_of used lines ring.1
  Ok (Enter ring.0 s.0, s.1, s.2)

-- the record of a `fill`
unfoldable pub one_fill : ℕ → List ℕ → Rest → Result (Record × List ℕ × Rest) Fault
one_fill used lines r = do
  _ ← room_for places_limit used r
  x ← fill_of r
  Ok (x.0, lines, x.1)

-- what the first word of the line of a record is
abbrev pub step_of : List ℕ → Option Step
step_of word = if bytes_eq word (codes "enter") then Some step.Enter else if bytes_eq word (codes "fill") then Some step.Fill else None

-- a record by that word, behind so many steps
abbrev pub record_of : Step → ℕ → List ℕ → Rest → Result (Record × List ℕ × Rest) Fault
record_of step.Enter used lines r = enter_of used lines r
record_of step.Fill used lines r = one_fill used lines r

-- one record more
unfoldable pub one_record : List Record × List ℕ × Rest → Step → Result (List Record × List ℕ × Rest) Fault
one_record s step = do
  _ ← room_for places_limit (length s.0) s.2
  x ← record_of step (places_in s.0) (with_line s.1 s.2) s.2
  Ok (s.0 ++ x.0 ∷ [], x.1, x.2)

abbrev pub more_records : List Record × List ℕ × Rest → Option (Result (List Record × List ℕ × Rest) Fault)
more_records s = option_map (one_record s) (step_of (first_word s.2).bytes)

-- all records
unfoldable pub records_of : List ℕ → Rest → Result (List Record × List ℕ × Rest) Fault
records_of lines r = repeated (length r.text) more_records ([], lines, r)
