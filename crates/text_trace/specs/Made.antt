-- The model: which line of a text makes a byte of its trace; the law that the lines make all of it at the end.
use Rattle.std.specs.Prelude.{◌≡◌, ℕ, ◌-◌, nat_lt, List, [], ◌∷◌, ◌++◌, length, map, Option, None, Some, if◌then◌else◌}
use Rattle.std.specs.List.{flat_map}
use Rattle.std.specs.Int.{w16, to_le_bytes}
use Rattle.trace_format.specs.declared.trace.Record.{Record}
use Rattle.trace_format.specs.declared.trace.Record.TheVariants.{Enter, Fill}
use Rattle.trace_format.specs.declared.trace.Ring.{Ring}
use Rattle.trace_format.specs.declared.trace.Trace.{Trace}
use Rattle.trace_format.specs.Spelling.{buffer_bytes, description_bytes, entry_text, header_bytes, item_bytes, record_bytes, slot_bytes, trace_bytes}

-- the bytes of the line of the table of descriptors, if there is one
abbrev pub table_lines : List ℕ → List (List ℕ)
table_lines [] = []
table_lines (n ∷ slots) = flat_map slot_bytes (n ∷ slots) ∷ []

-- The bytes of the lines `ring` and `slots`, with what stands behind the slots. Without slots there is no such line.
abbrev pub slots_lines : List ℕ → List ℕ → List (List ℕ)
slots_lines [] more = (to_le_bytes w16 0 ++ more) ∷ []
slots_lines (n ∷ slots) more = to_le_bytes w16 (length (n ∷ slots)) ∷ (flat_map slot_bytes (n ∷ slots) ++ more) ∷ []

-- the bytes of each line of a ring
abbrev pub ring_lines : Ring → List (List ℕ)
ring_lines r = slots_lines r.slots (to_le_bytes w16 (length r.buffers)) ++ map buffer_bytes r.buffers

-- the bytes of each line of a record
abbrev pub record_lines : Record → List (List ℕ)
record_lines (Enter ring entries) = (1 ∷ ring ∷ to_le_bytes w16 (length entries)) ∷ map entry_text entries
record_lines (Fill ring buffer offset bytes) = record_bytes (Fill ring buffer offset bytes) ∷ []

-- the bytes that each line of a trace makes, in the order of the lines; the header stands before them
abbrev pub trace_lines : Trace → List (List ℕ)
trace_lines t =
    map item_bytes t.items ++ map description_bytes t.descriptions ++ table_lines t.descriptors ++ flat_map ring_lines t.rings ++ flat_map record_lines t.records

-- of lines that make these bytes the one that makes the byte of a number, from 0
abbrev pub line_at : ℕ → List (List ℕ) → List ℕ → Option ℕ
line_at at (bytes ∷ more) (line ∷ lines) = if nat_lt at (length bytes) then Some line else line_at (at - length bytes) more lines
line_at at _ _ = None

-- the line that makes a byte of a trace, behind the 32 bytes of the header
unfoldable pub line_of_byte : Trace → List ℕ → ℕ → Option ℕ
line_of_byte t lines at = line_at (at - 32) (trace_lines t) lines

-- behind the header the lines make the bytes of the trace, one line after another
abbrev pub LinesMakeTrace : Type 0
LinesMakeTrace = (t : Trace) → header_bytes t ++ flat_map (λ bytes. bytes) (trace_lines t) ≡ trace_bytes t
