-- A helper: what stands between two records while a report is written, and what the parts of one turn do.
use Rattle.std.specs.Prelude.{◌≡◌, ◌≢◌, ◌<◌, ◌^◌, ◌++◌, ⊤, ℕ, List, Option, Result, Ok, Err}
use Rattle.std.specs.Io.KnownBytes.{Appends, Consumes}
use Rattle.byte_transfer.specs.Transfer.{AppendsPart, AppendsSome, Takes}
use Rattle.json_lines.specs.Forms.{IsWhole, written_as}
use Rattle.json_lines.specs.declared.form.Form.{Form}
use Rattle.trace_format.specs.declared.fault.Kind.TheVariants as kind
use Rattle.trace_format.specs.declared.fault.TraceFault.{TraceFault}
use Rattle.trace_records.specs.Whole.{SpellsTrace}
use Rattle.trace_records.specs.declared.record.Record.{Record}
use Rattle.trace_records.specs.declared.start.Start as three
use Rattle.trace_stream.specs.Streams.{GivesFault, ReadsAll, Stands, trace_of}
use Rattle.trace_stream.specs.declared.fault.StreamFault.{StreamFault}
use Rattle.trace_stream.specs.declared.fault.StreamFault.TheVariants as stream
use Rattle.trace_stream.specs.declared.stream.Stream.{Stream}
use Rattle.replay_report.specs.declared.showing.Shown.{Shown}
use Rattle.replay_stream.specs.Replayed.{HasRun, HasRunNext}
use Rattle.replay_stream.specs.declared.replaying.Replaying.{Replaying}
use Rattle.report_stream.specs.Written.{IsCutOff, IsFrontText, IsTextTo}
use Rattle.report_stream.specs.declared.fault.ReportFault.{ReportFault}
use Rattle.report_stream.specs.declared.fault.ReportFault.TheVariants.{Trace, Memory, Read, Write}
use Rattle.report_stream.specs.declared.turn.Turn.{Turn}
use Rattle.report_stream.specs.declared.turn.Turn.TheVariants.{Next, Last, Cut}

-- The fault of a stream, as it is told.
abbrev pub IsToldAs : StreamFault → ReportFault → Type 0
IsToldAs e (Trace f) = (e ≡ stream.Trace f) × (f.kind ≢ kind.Memory)
IsToldAs e Memory = (f : TraceFault) × (e ≡ stream.Trace f)
IsToldAs e Read = e ≡ stream.Read
IsToldAs e Write = ⊥

-- It is no end of bytes before the trace ends.
abbrev pub IsNotShort : ReportFault → Type 0
IsNotShort (Trace f) = f.kind ≢ kind.Short
IsNotShort other = ⊤

-- A text was not written whole: the writer took a part of it, or memory ran out before.
abbrev pub IsNotWritten : (written written' : Option (List ℕ)) → List ℕ → ReportFault → Type 0
IsNotWritten written written' text Write = AppendsPart written written' text
IsNotWritten written written' text Memory = written' ≡ written
IsNotWritten written written' text Read = ⊥
IsNotWritten written written' text (Trace f) = ⊥

-- The writer took the first bytes of the text in the form, and the others are left. Of whole lines it took whole lines.
abbrev pub Moves : Form → Option (List ℕ) → Option (List ℕ) → List ℕ → List ℕ → Type 0
Moves form written written' text text' = (out : List ℕ) × Appends written written' (written_as form out) × (text ≡ out ++ text') × (IsWhole text → IsWhole out)

-- The stream has the fault behind the records so far, and the writer took the whole text in the form; or it took a beginning of that.
abbrev pub StopsWith : Form → (left left' written written' : Option (List ℕ)) → Stream → List ℕ → ReportFault → Type 0
StopsWith form left left' written written' s text (Trace f) =
    GivesFault left left' s (stream.Trace f) × (f.kind ≢ kind.Memory) × Appends written written' (written_as form text)
StopsWith form left left' written written' s text other = Takes left left' × AppendsSome written written' (written_as form text)

-- The replay has just run the last of some records.
pub record RanLast (p : Replaying) : Type 0 where
  pub b : three.Start
  pub front : List Record
  pub r : Record
  pub run : HasRunNext b front r p

-- The lines up to a place are what was written before, the whole lines that the writer took in the form, and the text. Where it failed, it took a beginning of the lines.
abbrev pub AddsLines : Result (Unit {0}) ReportFault → three.Start → List Record → Shown → Form → (place : ℕ) → (written written' : Option (List ℕ)) → (before text : List ℕ) → Type 0
AddsLines (Ok done) b rs shown form place written written' before text =
    (out : List ℕ) × Appends written written' (written_as form out) × IsWhole out × IsTextTo b rs shown place ((before ++ out) ++ text)
AddsLines (Err Write) b rs shown form place written written' before text =
    (lines : List ℕ) × IsTextTo b rs shown place (before ++ lines) × AppendsSome written written' (written_as form lines)
AddsLines (Err Memory) b rs shown form place written written' before text = written' ≡ written
AddsLines (Err Read) b rs shown form place written written' before text = ⊥
AddsLines (Err (Trace f)) b rs shown form place written written' before text = ⊥

-- The writer took a beginning of the text, or memory ran out behind that.
abbrev pub EndsEarly : (written written' : Option (List ℕ)) → List ℕ → ReportFault → Type 0
EndsEarly written written' text Write = AppendsSome written written' text
EndsEarly written written' text Memory = AppendsSome written written' text
EndsEarly written written' text Read = ⊥
EndsEarly written written' text (Trace f) = ⊥

-- The bytes that were taken are a start, some records and what is held; the records were run; the whole lines that were written in the form, and the text behind them, are their lines.
pub record UnderWay (ahead : List ℕ) (left left' written written' : Option (List ℕ)) (s : Stream) (p : Replaying) (text : List ℕ) (shown : Shown) (form : Form) : Type 0 where
  pub start : three.Start
  pub rs : List Record
  pub more : List ℕ
  pub taken : Consumes left left' more
  pub stands : Stands start s (ahead ++ more) rs
  pub run : HasRun start rs p
  pub out : List ℕ
  pub wrote : Appends written written' (written_as form out)
  pub whole : IsWhole out
  pub so_far : IsFrontText start rs shown (out ++ text)

-- It is so of what was read ahead, left and written at some time.
pub record IsUnderWay (left written : Option (List ℕ)) (s : Stream) (p : Replaying) (text : List ℕ) (shown : Shown) (form : Form) : Type 0 where
  pub ahead : List ℕ
  pub left_first : Option (List ℕ)
  pub written_first : Option (List ℕ)
  pub is : UnderWay ahead left_first left written_first written s p text shown form

-- All bytes were taken, and are a trace whose records were run.
pub record AtEnd (ahead : List ℕ) (left left' written written' : Option (List ℕ)) (p : Replaying) (text : List ℕ) (shown : Shown) (form : Form) : Type 0 where
  pub start : three.Start
  pub rs : List Record
  pub all : ReadsAll ahead left left' (λ bytes. SpellsTrace bytes (trace_of start rs))
  pub run : HasRun start rs p
  pub out : List ℕ
  pub wrote : Appends written written' (written_as form out)
  pub whole : IsWhole out
  pub so_far : IsFrontText start rs shown (out ++ text)

-- All bytes were taken, and are cut off at a byte behind some records, with this fault; the records were run, and their lines in the form are what was written.
pub record AtCut (ahead : List ℕ) (left left' written written' : Option (List ℕ)) (p : Replaying) (shown : Shown) (form : Form) (at : ℕ) (f : TraceFault) : Type 0 where
  pub start : three.Start
  pub rs : List Record
  pub all : ReadsAll ahead left left' (λ bytes. (cut : IsCutOff bytes start rs at) × (cut.f ≡ f))
  pub run : HasRun start rs p
  pub text : List ℕ
  pub wrote : Appends written written' (written_as form text)
  pub so_far : IsFrontText start rs shown text

-- A turn goes on by a record, finds the end, or bytes that end before it.
abbrev pub GoesTo : (ahead : List ℕ) (left left' written written' : Option (List ℕ)) → Stream → (text : List ℕ) → Shown → Form → Turn → Type 0
GoesTo ahead left left' written written' s text shown form (Next p) = UnderWay ahead left left' written written' s p.value text shown form
GoesTo ahead left left' written written' s text shown form (Last p) = AtEnd ahead left left' written written' p.value text shown form
GoesTo ahead left left' written written' s text shown form (Cut p at f) = AtCut ahead left left' written written' p.value shown form at f

-- A fault stops a turn: the bytes end behind the records so far, at a byte, or within the next one.
abbrev pub StopsAt : Replaying → (at : ℕ) → ReportFault → Turn → Type 0
StopsAt p at fault (Next q) = ⊥
StopsAt p at fault (Last q) = ⊥
StopsAt p at fault (Cut q n f) = (fault ≡ Trace f) × (f.kind ≡ kind.Short) × (q.value ≡ p) × (n ≡ at)

-- A record begins behind the one before it, below 2^63.
abbrev pub IsOn : Stream → Stream → Turn → Type 0
IsOn s s' (Next p) = (s.held.place < s'.held.place) × (s'.held.place < 2 ^ 63)
IsOn s s' (Last p) = ⊤
IsOn s s' (Cut p at f) = ⊤

-- How many calls of the reader failed, and how many of the writer.
abbrev pub reads_of : ReportFault → ℕ
reads_of Read = 1
reads_of other = 0

abbrev pub writes_of : ReportFault → ℕ
writes_of Write = 1
writes_of other = 0

abbrev pub reads_failed : {T : Type 0} → Result T ReportFault → ℕ
reads_failed (Ok x) = 0
reads_failed (Err e) = reads_of e

abbrev pub writes_failed : {T : Type 0} → Result T ReportFault → ℕ
writes_failed (Ok x) = 0
writes_failed (Err e) = writes_of e
