-- The model: what a run that writes a report does to its reader and its writer: of a trace of version 3 the report is written while the trace is read.
use Rattle.std.specs.Prelude.{◌≡◌, ◌≢◌, ⊤, Bool, true, false, List, [], Option, None, Some, ℕ}
use Rattle.std.specs.Io.KnownBytes.{Appends, Consumes, Keeps}
use Rattle.byte_transfer.specs.Transfer.{AppendsPart}
use Rattle.json_lines.specs.Forms.{written_as}
use Rattle.json_lines.specs.declared.form.Form.{Form}
use Rattle.trace_format.specs.Grammar.{fault}
use Rattle.trace_format.specs.declared.fault.Kind.TheVariants as kind
use Rattle.recording.specs.declared.recording.Recording.{Recording}
use Rattle.replay_report.specs.declared.showing.Shown.{Shown}
use Rattle.report_stream.specs.Written.{WritesCut, WritesUpTo}
use Rattle.report_stream.specs.declared.fault.ReportFault.{ReportFault}
use Rattle.report_stream.specs.declared.fault.ReportFault.TheVariants as streamed
use Rattle.replay_program.specs.declared.fault.RunFault.{RunFault}
use Rattle.program_words.specs.declared.words.Mode.{Mode}
use Rattle.program_words.specs.declared.words.Mode.TheVariants.{Serial, Run}
use Rattle.replay_program.specs.declared.fault.RunFault.TheVariants.{Trace, Read, Write}
use Rattle.replay_program.specs.Recordings.{has_version_3}
use Rattle.replay_program.specs.Runs.{ReadsTrace, TellsOfReading, sequential_report}

-- The modes whose report is written while the trace is read: in recorded order, or by a run that chooses what seems quicker.
abbrev pub IsStreamed : Mode → Type 0
IsStreamed Serial = ⊤
IsStreamed (Run workers window eager) = eager ≡ false
IsStreamed other = ⊥

-- The reader was read to its end, and the writer took the report of its trace in the form, and nothing else.
pub record WritesReportOf (shown : Shown) (form : Form) (left left' written written' : Option (List ℕ)) : Type 0 where
  pub t : Recording
  pub read : ReadsTrace left left' t
  pub wrote : Appends written written' (written_as form (sequential_report t shown))

-- The same of a trace that is cut off at a byte, if it is: the report is the one of the trace that ends behind the last whole record.
abbrev pub WritesReportUpTo : (cut : Option ℕ) → Shown → Form → (left left' written written' : Option (List ℕ)) → Type 0
WritesReportUpTo None = WritesReportOf
WritesReportUpTo (Some at) = WritesCut at []

-- The reader was read to its end, and the writer took the first bytes of the report in the form, but not all.
pub record WritesPartOf (shown : Shown) (form : Form) (left left' written written' : Option (List ℕ)) : Type 0 where
  pub t : Recording
  pub read : ReadsTrace left left' t
  pub wrote : AppendsPart written written' (written_as form (sequential_report t shown))

-- What was written of a text of version 1 or 2 before a fault: nothing, but where the writer failed.
pub record WholeUpTo (shown : Shown) (form : Form) (left left' written written' : Option (List ℕ)) (f : RunFault) : Type 0 where
  pub told : TellsOfReading left left' f
  pub nothing : f ≢ Write → Keeps written written'
  pub part : f ≡ Write → WritesPartOf shown form left left' written written'

-- How the program tells of a report that was not written whole.
abbrev pub report_told : ReportFault → RunFault
report_told (streamed.Trace f) = Trace f
report_told streamed.Memory = Trace (fault kind.Memory 0)
report_told streamed.Read = Read
report_told streamed.Write = Write

-- What was written of one of version 3: the lines of the records before the fault, or a beginning of what the bytes so far give.
pub record StreamUpTo (may_be_cut : Bool) (shown : Shown) (form : Form) (left left' written written' : Option (List ℕ)) (f : RunFault) : Type 0 where
  pub e : ReportFault
  pub told : f ≡ report_told e
  pub wrote : WritesUpTo may_be_cut [] shown form left left' written written' e

-- The same, by the version: true of version 3.
abbrev pub UpTo : (three may_be_cut : Bool) → Shown → Form → (left left' written written' : Option (List ℕ)) → RunFault → Type 0
UpTo false may_be_cut = WholeUpTo
UpTo true may_be_cut = StreamUpTo may_be_cut

-- What was taken of the reader, and what was written of that before a fault.
pub record ReportUpTo (may_be_cut : Bool) (shown : Shown) (form : Form) (left left' written written' : Option (List ℕ)) (f : RunFault) : Type 0 where
  pub text : List ℕ
  pub taken : Consumes left left' text
  pub is : UpTo (has_version_3 text) may_be_cut shown form left left' written written' f
