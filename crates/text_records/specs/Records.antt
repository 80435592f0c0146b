-- The model: the records of a text: entries, fills, sets, seeks, rings and their ends.
use Rattle.std.specs.Prelude.{ℕ, List, [], ◌∷◌, ◌++◌, length, Option, None, Some, Result, Ok, codes, option_map, unwrap_or, if◌then◌else◌}
use Rattle.std.specs.List.{flat_map}
use Rattle.std.specs.Str.{bytes_eq}
use Rattle.trace_format.specs.declared.trace.Buffer.{Buffer}
use Rattle.trace_format.specs.Spelling.{buffer_bytes}
use Rattle.trace_records.specs.declared.record.Entry.{Entry}
use Rattle.trace_records.specs.declared.record.Filling.{Filling}
use Rattle.trace_records.specs.declared.record.Filling.TheVariants as filling
use Rattle.trace_records.specs.declared.record.FullSlot.{FullSlot}
use Rattle.trace_records.specs.declared.record.Record.{Record}
use Rattle.trace_records.specs.declared.record.Record.TheVariants.{Enter, Fill, RingEnds, RingStarts}
use Rattle.trace_records.specs.Spelling.{entry_text, full_slot_bytes, record_bytes}
use Rattle.trace_records.specs.Tallies.{rings}
use Rattle.text_words.specs.declared.fault.Fault.{Fault}
use Rattle.text_words.specs.declared.fault.Reason.TheVariants as why
use Rattle.text_words.specs.Numbers.{number}
use Rattle.text_words.specs.Read.{Rest, ◌>>=◌, fault, known, repeated}
use Rattle.text_words.specs.Strings.{strings_of}
use Rattle.text_words.specs.Words.{behind_first, behind_next, first_word, line_end, next_word, value_at}
use Rattle.text_trace.specs.Fields.{opcode_of}
use Rattle.text_trace.specs.Lines.{buffer_of, keyed, next_number, next_of}
use Rattle.text_trace.specs.Parts.{begins, room_for}
use Rattle.text_records.specs.declared.pieces.Piece.{Piece}
use Rattle.text_records.specs.declared.records.Step.{Step}
use Rattle.text_records.specs.declared.records.Step.TheVariants as step
use Rattle.text_records.specs.declared.slots.Table.TheVariants as table
use Rattle.text_records.specs.Entry.{entry_of}
use Rattle.text_records.specs.Pieces.{with_piece}
use Rattle.text_records.specs.Sets.{seek_of, set_of}
use Rattle.text_records.specs.Slots.{slots_line}

-- Below, what is read has three parts: the values, which line made which bytes, and what is left to read.

-- one entry more, of 32,768 in a record at most
unfoldable pub one_entry : List Entry × List Piece × Rest → ℕ → Result (List Entry × List Piece × Rest) Fault
one_entry s opcode = do
  _ ← room_for 32768 (length s.0) s.2
  x ← entry_of (first_word s.2).left opcode (behind_first s.2)
  Ok (s.0 ++ x.0 ∷ [], with_piece s.1 (length (entry_text x.0)) (first_word s.2).left, x.1)

abbrev pub more_entries : List Entry × List Piece × Rest → Option (Result (List Entry × List Piece × Rest) Fault)
more_entries s = option_map (one_entry s) (opcode_of (first_word s.2).bytes)

-- the entries behind one line `enter`
unfoldable pub entries_of : List Piece → Rest → Result (List Entry × List Piece × Rest) Fault
entries_of pieces r = repeated (length r.text) more_entries ([], pieces, r)

-- the ring that entries were handed to
unfoldable pub enter_line : Rest → Result (ℕ × Rest) Fault
enter_line r = do
  ring ← next_of 32 (behind_first r)
  rest ← line_end ring.1
  Ok (ring.0, rest)

-- the record of an `enter`: its own line makes the kind, the ring and the count of entries
unfoldable pub enter_of : List Piece → Rest → Result (Record × List Piece × Rest) Fault
enter_of pieces r = do
  ring ← enter_line r
  s ← entries_of (with_piece pieces 7 (first_word r).left) ring.1
  Ok (Enter ring.0 s.0, s.1, s.2)

-- the buffer of a ring that a fill puts bytes into
unfoldable pub fill_buffer : Rest → Result (ℕ × ℕ × Rest) Fault
fill_buffer r = do
  ring ← next_of 32 (behind_first r)
  value ← known (value_at (next_word ring.1) (codes "buffer")) (fault why.Buffer (next_word ring.1).left)
  buffer ← number 16 value
  Ok (ring.0, buffer, behind_next ring.1)

-- bytes as strings
unfoldable pub stored_of : Rest → Result (Filling × Rest) Fault
stored_of r = do
  bytes ← strings_of r
  Ok (filling.Stored bytes.0, bytes.1)

-- so many zeros, or bytes as strings
unfoldable pub filling_of : Rest → Result (Filling × Rest) Fault
filling_of r = elim (value_at (next_word r) (codes "zeros")) [
  | Some value ↦ number 32 value >>= λ n. Ok (filling.Zeros n, behind_next r)
  | None ↦ stored_of r
]

-- bytes for a part of a registered buffer
unfoldable pub fill_of : Rest → Result (Record × Rest) Fault
fill_of r = do
  buffer ← fill_buffer r
  offset ← keyed 32 (codes "at") buffer.2
  bytes ← filling_of offset.1
  rest ← line_end bytes.1
  Ok (Fill buffer.0 buffer.1 (unwrap_or offset.0 0) bytes.0, rest)

-- the record of a line by itself
abbrev pub made_by : List Piece → Rest → Record → Rest → Record × List Piece × Rest
made_by pieces r made rest = (made, with_piece pieces (length (record_bytes made)) (first_word r).left, rest)

-- the record of a `fill`
unfoldable pub one_fill : List Piece → Rest → Result (Record × List Piece × Rest) Fault
one_fill pieces r = do
  x ← fill_of r
  Ok (made_by pieces r x.0 x.1)

-- those of a `set` and a `seek`
unfoldable pub one_set : List Piece → Rest → Result (Record × List Piece × Rest) Fault
one_set pieces r = do
  x ← set_of r
  Ok (made_by pieces r x.0 x.1)

unfoldable pub one_seek : List Piece → Rest → Result (Record × List Piece × Rest) Fault
one_seek pieces r = do
  x ← seek_of r
  Ok (made_by pieces r x.0 x.1)

-- the end of a ring
unfoldable pub ring_end : List Piece → Rest → Result (Record × List Piece × Rest) Fault
ring_end pieces r = do
  ring ← next_of 32 (behind_first r)
  rest ← line_end (behind_next ring.1)
  Ok (made_by pieces r (RingEnds ring.0) rest)

-- the line of a new ring behind so many, and the ring whose queue it continues
unfoldable pub ring_line : ℕ → Rest → Result (Option ℕ × Rest) Fault
ring_line n r = do
  start ← next_number n (behind_first r)
  queue ← keyed 32 (codes "queue") start
  rest ← line_end queue.1
  Ok (queue.0, rest)

-- the slots of a ring, none where there is no such line: their number, and the full ones
unfoldable pub ring_slots : List Piece → Rest → Result (ℕ × List FullSlot × List Piece × Rest) Fault
ring_slots pieces r =
    if begins (codes "slots") r then (do
      x ← slots_line table.Slots r
      Ok (x.0.0, x.0.1, with_piece pieces (length (flat_map full_slot_bytes x.0.1)) (first_word r).left, x.1))
    else Ok (0, [], pieces, r)

-- one buffer more
unfoldable pub one_buffer : List Buffer × List Piece × Rest → Result (List Buffer × List Piece × Rest) Fault
one_buffer s = do
  _ ← room_for 16384 (length s.0) s.2
  x ← buffer_of (length s.0) s.2
  Ok (s.0 ++ x.0 ∷ [], with_piece s.1 (length (buffer_bytes x.0)) (first_word s.2).left, x.1)

abbrev pub more_buffers : List Buffer × List Piece × Rest → Option (Result (List Buffer × List Piece × Rest) Fault)
more_buffers s = if begins (codes "buffer") s.2 then Some (one_buffer s) else None

-- the buffers of a ring
unfoldable pub buffers_of : List Piece → Rest → Result (List Buffer × List Piece × Rest) Fault
buffers_of pieces r = repeated (length r.text) more_buffers ([], pieces, r)

-- A ring behind so many. Its own line makes the kind, the queue and the two counts of slots, and behind the slots the count of buffers.
unfoldable pub ring_start : ℕ → List Piece → Rest → Result (Record × List Piece × Rest) Fault
ring_start n pieces r = do
  _ ← room_for 1048576 n r
  head ← ring_line n r
  slots ← ring_slots (with_piece pieces 13 (first_word r).left) head.1
  buffers ← buffers_of (with_piece slots.2 2 (first_word r).left) slots.3
  Ok (RingStarts (record { queue = head.0; slots = slots.0; full = slots.1; buffers = buffers.0 }), buffers.1, buffers.2)

-- what the first words of a line of a record are
abbrev pub ring_step : Rest → Step
ring_step r = if bytes_eq (next_word (behind_next (behind_first r))).bytes (codes "ends") then step.RingEnds else step.RingStarts

abbrev pub step_of : Rest → Option Step
step_of r =
    if begins (codes "enter") r then Some step.Enter else if begins (codes "fill") r then Some step.Fill
    else if begins (codes "set") r then Some step.Set else if begins (codes "seek") r then Some step.Seek
    else if begins (codes "ring") r then Some (ring_step r) else None

-- a record by those words, behind so many rings
abbrev pub record_of : Step → ℕ → List Piece → Rest → Result (Record × List Piece × Rest) Fault
record_of step.Enter n pieces r = enter_of pieces r
record_of step.Fill n pieces r = one_fill pieces r
record_of step.Set n pieces r = one_set pieces r
record_of step.Seek n pieces r = one_seek pieces r
record_of step.RingStarts n pieces r = ring_start n pieces r
record_of step.RingEnds n pieces r = ring_end pieces r

-- one record more
unfoldable pub one_record : List Record × List Piece × Rest → Step → Result (List Record × List Piece × Rest) Fault
one_record s step = do
  x ← record_of step (rings s.0) s.1 s.2
  Ok (s.0 ++ x.0 ∷ [], x.1, x.2)

abbrev pub more_records : List Record × List Piece × Rest → Option (Result (List Record × List Piece × Rest) Fault)
more_records s = option_map (one_record s) (step_of s.2)

-- all records
unfoldable pub records_of : List Piece → Rest → Result (List Record × List Piece × Rest) Fault
records_of pieces r = repeated (length r.text) more_records ([], pieces, r)
