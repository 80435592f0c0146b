-- The model: the bytes that a whole text means, of any version, or its first fault.
use Rattle.std.specs.Prelude.{◌≡◌, ◌⊎◌, ◌≤◌, ◌<◌, ⊤, ℕ, ◌-◌, ◌&&◌, Bool, true, false, List, [], length, Result, Ok, Err, codes, unwrap_or}
use Rattle.std.specs.Str.{bytes_eq}
use Rattle.trace_format.specs.Grammar as format
use Rattle.trace_format.specs.Text as of_two
use Rattle.trace_format.specs.Text.{longest}
use Rattle.trace_format.specs.declared.fault.Kind.TheVariants.{Limit}
use Rattle.trace_format.specs.declared.fault.TraceFault.{TraceFault}
use Rattle.trace_format.specs.declared.trace.Trace as two
use Rattle.trace_records.specs.declared.trace.Trace.{Trace}
use Rattle.trace_records.specs.Spelling.{trace_bytes}
use Rattle.trace_records.specs.Whole.{IsRefusal, SpellsTrace}
use Rattle.text_words.specs.declared.fault.Fault.{Fault}
use Rattle.text_words.specs.declared.fault.Reason.TheVariants as why
use Rattle.text_words.specs.declared.fault.ReadError.{ReadError}
use Rattle.text_words.specs.declared.fault.ReadError.TheVariants as errors
use Rattle.text_words.specs.Read.{Rest, ◌>>=◌, fault}
use Rattle.text_words.specs.Words.{behind_first, behind_next, first_word, line_end, next_word}
use Rattle.text_trace.specs.declared.fault.MakeFault.{MakeFault}
use Rattle.text_trace.specs.declared.fault.MakeFault.TheVariants.{Memory, Text}
use Rattle.text_trace.specs.Lines.{text_end}
use Rattle.text_trace.specs.Places as of_two_told
use Rattle.text_trace.specs.Places.{fault_told}
use Rattle.text_trace.specs.Whole.{meaning, whole}
use Rattle.text_records.specs.declared.pieces.Piece.{Piece}
use Rattle.text_records.specs.Pieces.{left_at}
use Rattle.text_records.specs.Records.{records_of}
use Rattle.text_records.specs.Start.{descriptions_of, items_of, number_of, table_of}

-- whether the first line names version 3; all other texts are read as of version 1 or 2
abbrev pub names_three : Rest → Bool
names_three r = bytes_eq (first_word r).bytes (codes "uring-trace") && bytes_eq (next_word (behind_first r)).bytes (codes "3")

abbrev pub has_version_3 : List ℕ → Bool
has_version_3 text = names_three (whole text)

-- the trace that a text of version 3 means, and which of its lines made which bytes, behind the header
unfoldable pub trace_meant : List ℕ → Result (Trace × List Piece) Fault
trace_meant text = do
  rest ← line_end (behind_next (behind_first (whole text)))
  items ← items_of [] rest
  descriptions ← descriptions_of (number_of items.0) items.1 items.2
  table ← table_of descriptions.1 descriptions.2
  records ← records_of table.2 table.3
  _ ← text_end records.2
  Ok (
    record {
      start = record { items = items.0; descriptions = descriptions.0; table_size = table.0; descriptors = table.1 };
      records = records.0;
    },
    records.1,
  )

-- Bytes have the fault, and are no trace that is read. More bytes come before all else.
abbrev pub HasFault : List ℕ → TraceFault → Type 0
HasFault bytes f = ((longest < length bytes) × (f ≡ format.fault Limit longest)) ⊎ ((length bytes ≤ longest) × IsRefusal bytes f)

-- the first word of the line that made the byte of a fault, behind the 32 bytes of the header
abbrev pub told_of : List ℕ → List Piece → TraceFault → Fault
told_of text pieces f = fault (why.Trace f.kind) (unwrap_or (left_at (f.at - 32) pieces) (length text))

-- Bytes are those of a trace that is read.
abbrev pub IsTrace : List ℕ → Type 0
IsTrace bytes = (length bytes ≤ longest) × ((t : Trace) × SpellsTrace bytes t)

-- a fault of the bytes that a text would mean, told at the line
abbrev pub IsFaultOfBytes : List ℕ → Trace × List Piece → Fault → Type 0
IsFaultOfBytes text x f = (g : TraceFault) × HasFault (trace_bytes x.0) g × (f ≡ told_of text x.1 g)

-- A text of version 3 means the bytes of its trace, where they are those of a trace.
abbrev pub MeansThree : List ℕ → List ℕ → Type 0
MeansThree text bytes = (x : Trace × List Piece) × (trace_meant text ≡ Ok x) × (bytes ≡ trace_bytes x.0) × IsTrace bytes

-- the first fault of a text of version 3: that of the text, or that of its bytes
abbrev pub IsFaultOfThree : List ℕ → Fault → Type 0
IsFaultOfThree text f = (trace_meant text ≡ Err f) ⊎ ((x : Trace × List Piece) × (trace_meant text ≡ Ok x) × IsFaultOfBytes text x f)

-- what a fault tells; of memory nothing is said
abbrev pub OnFault : ReadError → (Fault → Type 0) → Type 0
OnFault errors.OutOfMemory P = ⊤
OnFault (errors.Fault f) P = P f

-- The text means the bytes, which are those of a trace. True: it is of version 3.
abbrev pub MeansBytes : Bool → List ℕ → List ℕ → Type 0
MeansBytes true text bytes = MeansThree text bytes
MeansBytes false text bytes = (meaning text ≡ Ok bytes) × ((t : two.Trace) × of_two.SpellsTrace bytes t)

-- A refused text has this first fault, told by line and column.
abbrev pub IsTold : Bool → List ℕ → MakeFault → Type 0
IsTold false text f = of_two_told.IsTold text f
IsTold true text Memory = ⊤
IsTold true text (Text told) = (f : Fault) × IsFaultOfThree text f × (told ≡ fault_told text f)
