-- The model: the trace and the bytes that a whole text means, or its first fault.
use Rattle.std.specs.Prelude.{ℕ, ◌==◌, ◌^◌, List, [], length, Result, Ok, Err, codes, unwrap_or, if◌then◌else◌}
use Rattle.trace_format.specs.declared.fault.TraceFault.{TraceFault}
use Rattle.trace_format.specs.declared.trace.Trace.{Trace}
use Rattle.trace_format.specs.declared.version.Version.{Version}
use Rattle.trace_format.specs.Read.{reading_trace}
use Rattle.trace_format.specs.Spelling.{trace_bytes}
use Rattle.trace_format.specs.Versions.{rules}
use Rattle.text_words.specs.declared.fault.Fault.{Fault}
use Rattle.text_words.specs.declared.fault.Reason.TheVariants as why
use Rattle.text_words.specs.Read.{Rest, ◌>>=◌, fault}
use Rattle.text_trace.specs.Items.{items_of, number_of}
use Rattle.text_trace.specs.Lines.{text_end, version_of}
use Rattle.text_trace.specs.Made.{line_of_byte}
use Rattle.text_trace.specs.Parts.{descriptions_of, rings_of, slots_behind}
use Rattle.text_trace.specs.Records.{records_of}

-- the table of descriptors: a line of it can stand where the version has one
unfoldable pub descriptors_of : Version → List ℕ → Rest → Result (List ℕ × List ℕ × Rest) Fault
descriptors_of version lines r =
    if (rules version).most_descriptors == 0 then Ok ([], lines, r) else slots_behind (codes "descriptors") lines r

-- a whole text, whose strings may mean 2^30 bytes
abbrev pub whole : List ℕ → Rest
whole text = record { text = text; room = 2 ^ 30 }

-- the trace that a text means, and how many bytes of the text are left from each line on that makes bytes
unfoldable pub trace_meant : List ℕ → Result (Trace × List ℕ) Fault
trace_meant text = do
  version ← version_of (whole text)
  items ← items_of [] version.1
  descriptions ← descriptions_of (number_of items.0) items.1 items.2
  descriptors ← descriptors_of version.0 descriptions.1 descriptions.2
  rings ← rings_of descriptors.1 descriptors.2
  records ← records_of rings.1 rings.2
  _ ← text_end records.2
  Ok (
    record {
      version = version.0;
      items = items.0;
      descriptions = descriptions.0;
      descriptors = descriptors.0;
      rings = rings.0;
      records = records.0;
    },
    records.1,
  )

-- The bytes of the trace of a text, by what reading them gives. A fault of them is told at the line that makes its byte.
abbrev pub bytes_read : List ℕ → Trace × List ℕ → Result Trace TraceFault → Result (List ℕ) Fault
bytes_read text x (Ok _) = Ok (trace_bytes x.0)
bytes_read text x (Err f) = Err (fault (why.Trace f.kind) (unwrap_or (line_of_byte x.0 x.1 f.at) (length text)))

-- the bytes that a text means, or the first fault: that of the text, or that of the bytes, which are then no trace
unfoldable pub meaning : List ℕ → Result (List ℕ) Fault
meaning text = do
  x ← trace_meant text
  bytes_read text x (reading_trace (trace_bytes x.0))
