-- The model: what is written of a trace of version 3 that is replayed record by record: its report, or so much of it as the records so far tell.
use Rattle.std.specs.Prelude.{◌≡◌, ◌≢◌, ◌⊎◌, ◌++◌, ℕ, Bool, true, [], List, length, Option, None, Some}
use Rattle.std.specs.Io.KnownBytes.{Appends, Consumes, IsAtEnd, Keeps}
use Rattle.byte_transfer.specs.Transfer.{AppendsSome}
use Rattle.json_lines.specs.Forms.{written_as}
use Rattle.json_lines.specs.declared.form.Form.{Form}
use Rattle.trace_format.specs.Grammar.{Breaks}
use Rattle.trace_format.specs.declared.fault.Kind.TheVariants.{Short}
use Rattle.trace_format.specs.declared.fault.TraceFault.{TraceFault}
use Rattle.trace_records.specs.declared.record.Record.{Record}
use Rattle.trace_records.specs.declared.start.Start as three
use Rattle.trace_records.specs.declared.trace.Trace as whole
use Rattle.trace_records.specs.Start.{start}
use Rattle.trace_records.specs.Whole.{IsFront, SpellsTrace}
use Rattle.trace_stream.specs.Streams.{HasFaultBehind, ReadsAll, trace_of}
use Rattle.recording.specs.Growing.{of_records}
use Rattle.op_meaning.specs.Step.{sequential_replies, sequential_reply, sequential_world}
use Rattle.stream_laws.specs.Streamed.{place_behind, recording_of}
use Rattle.replay_report.specs.declared.showing.Lines.{Lines}
use Rattle.replay_report.specs.declared.showing.Shown.{Shown}
use Rattle.replay_report.specs.InOrder.{entry_lines}
use Rattle.replay_report.specs.Report.{report_of, title}
use Rattle.report_stream.specs.declared.fault.ReportFault.{ReportFault}
use Rattle.report_stream.specs.declared.fault.ReportFault.TheVariants.{Trace, Memory, Read, Write}

-- The report of the sequential run of a trace.
abbrev pub report : whole.Trace → Shown → List ℕ
report t shown = let u = of_records t in report_of u (sequential_world u) (sequential_replies u) shown

-- How its lines are written.
abbrev pub lines_in : Shown → Lines
lines_in shown = record { names = shown.names; in_order = true }

-- The text is the first line and the lines of the entries below a place: so the report of every trace begins that begins with these records.
pub record IsTextTo (b : three.Start) (rs : List Record) (shown : Shown) (place : ℕ) (text : List ℕ) : Type 0 where
  pub is : (back : List Record) → let u = recording_of b (rs ++ back) in text ≡ title (lines_in shown) ++ entry_lines u (sequential_reply u) (lines_in shown) place

-- So it is of all entries of these records.
abbrev pub IsFrontText : three.Start → List Record → Shown → List ℕ → Type 0
IsFrontText b rs shown text = IsTextTo b rs shown (place_behind b rs) text

-- The bytes begin with a start and these records.
pub record HasFront (bytes : List ℕ) (b : three.Start) (rs : List Record) : Type 0 where
  pub here : List ℕ
  pub rest : List ℕ
  pub split : bytes ≡ here ++ rest
  pub spelled : IsFront here (trace_of b rs)

-- The bytes end before the trace does: at a byte, behind a start and some records, or within the record behind that.
pub record IsCutOff (bytes : List ℕ) (b : three.Start) (rs : List Record) (at : ℕ) : Type 0 where
  pub front : HasFront bytes b rs
  pub ends : length front.here ≡ at
  pub f : TraceFault
  pub short : f.kind ≡ Short
  pub broken : HasFaultBehind bytes b rs f

-- What the bytes so far give: nothing, the lines of the records that they begin with, or the whole report. Where they may be cut off, also that of these records.
abbrev pub Tells : (may_be_cut : Bool) → List ℕ → Shown → List ℕ → Type 0
Tells may bytes shown text =
    (text ≡ [])
    ⊎ ((b : three.Start) × (rs : List Record) × HasFront bytes b rs × IsFrontText b rs shown text)
    ⊎ ((t : whole.Trace) × SpellsTrace bytes t × (text ≡ report t shown))
    ⊎ ((may ≡ true) × (b : three.Start) × (rs : List Record) × (at : ℕ) × IsCutOff bytes b rs at × (text ≡ report (trace_of b rs) shown))

-- The reader was read to its end, what was read ahead and what it had left spells a trace, and the writer took the report of that in the form, and nothing else.
abbrev pub WritesReport : List ℕ → Shown → Form → (left left' written written' : Option (List ℕ)) → Type 0
WritesReport ahead shown form left left' written written' =
    ReadsAll ahead left left' (λ text. (t : whole.Trace) × SpellsTrace text t × Appends written written' (written_as form (report t shown)))

-- The same of bytes that are cut off: the report is the one of the trace that ends behind the last whole record, at a byte.
abbrev pub WritesCut : (at : ℕ) → List ℕ → Shown → Form → (left left' written written' : Option (List ℕ)) → Type 0
WritesCut at ahead shown form left left' written written' =
    ReadsAll ahead left left' (λ text. (b : three.Start) × (rs : List Record) × IsCutOff text b rs at × Appends written written' (written_as form (report (trace_of b rs) shown)))

-- The one or the other: some trace was cut off, at a byte, or none.
abbrev pub Writes : Option ℕ → List ℕ → Shown → Form → (left left' written written' : Option (List ℕ)) → Type 0
Writes None = WritesReport
Writes (Some at) = WritesCut at

-- The bytes have the fault in the start, and nothing was written.
abbrev pub FailsAtStart : List ℕ → TraceFault → (written written' : Option (List ℕ)) → Type 0
FailsAtStart bytes f written written' = Breaks start 0 bytes f × Keeps written written'

-- They have it behind some records, and the writer took the first line and the lines of these records in the form, and nothing else. Where they may be cut off, an end too early is no fault there.
abbrev pub FailsBehind : (may_be_cut : Bool) → List ℕ → Shown → Form → TraceFault → (written written' : Option (List ℕ)) → Type 0
FailsBehind may bytes shown form f written written' =
    (may ≡ true → f.kind ≢ Short)
    × ((b : three.Start) × (rs : List Record) × (text : List ℕ) × HasFaultBehind bytes b rs f × IsFrontText b rs shown text × Appends written written' (written_as form text))

-- What was read ahead and what the reader lost has the fault. It is told where the reader is at its end, or where no byte more changes it.
pub record WritesBefore (may_be_cut : Bool) (ahead : List ℕ) (shown : Shown) (form : Form) (f : TraceFault) (left left' written written' : Option (List ℕ)) : Type 0 where
  pub more : List ℕ
  pub taken : Consumes left left' more
  pub ended : f.kind ≡ Short → IsAtEnd left'
  pub wrote : FailsAtStart (ahead ++ more) f written written' ⊎ FailsBehind may_be_cut (ahead ++ more) shown form f written written'

-- The writer took a beginning of what the bytes so far give in the form, and nothing else.
pub record WritesSome (may_be_cut : Bool) (ahead : List ℕ) (shown : Shown) (form : Form) (left left' written written' : Option (List ℕ)) : Type 0 where
  pub more : List ℕ
  pub taken : Consumes left left' more
  pub text : List ℕ
  pub told : Tells may_be_cut (ahead ++ more) shown text
  pub wrote : AppendsSome written written' (written_as form text)

-- What was written before a fault.
abbrev pub WritesUpTo : (may_be_cut : Bool) → List ℕ → Shown → Form → (left left' written written' : Option (List ℕ)) → ReportFault → Type 0
WritesUpTo may ahead shown form left left' written written' (Trace f) = WritesBefore may ahead shown form f left left' written written'
WritesUpTo may ahead shown form left left' written written' Memory = WritesSome may ahead shown form left left' written written'
WritesUpTo may ahead shown form left left' written written' Read = WritesSome may ahead shown form left left' written written'
WritesUpTo may ahead shown form left left' written written' Write = WritesSome may ahead shown form left left' written written'
