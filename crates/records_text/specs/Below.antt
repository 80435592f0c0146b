-- The model: a text of differences, with the entries of a trace of version 3. At the end, a view of code: the lines of what places have.
use Rattle.std.specs.Prelude.{ℕ, List, [], ◌∷◌, map, Option, None, Some}
use Rattle.std.specs.List.{flat_map}
use Rattle.std.specs.Borrow.{Bor}
use Rattle.trace_records.specs.declared.record.Entry.{Entry}
use Rattle.trace_records.specs.declared.record.Record.{Record}
use Rattle.trace_records.specs.declared.record.Record.TheVariants.{Enter, Fill, Set, Seek, RingStarts, RingEnds}
use Rattle.trace_records.specs.declared.trace.Trace.{Trace}
use Rattle.trace_text.specs.Below.{brief, with_lines}
use Rattle.records_text.specs.Shown.{submitted_words}

-- The lines of a record's places. A fill, a set, a seek and a new ring have none, and the end of a ring is no place.
abbrev pub place_lines : Record → List (List ℕ)
place_lines (Enter ring entries) = map (submitted_words brief) entries
place_lines (Fill ring buffer offset filling) = [] ∷ []
place_lines (Set file content) = [] ∷ []
place_lines (Seek file position) = [] ∷ []
place_lines (RingStarts ring) = [] ∷ []
place_lines (RingEnds ring) = []

-- Those of all places of a trace.
abbrev pub entry_lines : Trace → List (List ℕ)
entry_lines t = flat_map place_lines t.records

-- The text, with the entry below each line that is of one.
abbrev pub with_entries : Trace → List ℕ → List ℕ
with_entries t text = with_lines (entry_lines t) text

-- The line of what is kept of a place: its entry, where it has one.
abbrev pub kept_line : Option (Bor Entry) → List ℕ
kept_line None = []
kept_line (Some entry) = submitted_words brief entry.now

abbrev pub kept_lines : List (Option (Bor Entry)) → List (List ℕ)
kept_lines places = map kept_line places
