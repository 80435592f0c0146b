-- A helper: what was taken of a text before its version is known, and what the readers of each version tell.
use Rattle.std.specs.Prelude.{◌≡◌, ◌⊎◌, ◌≤◌, ◌++◌, true, false, List, Option, ℕ, length}
use Rattle.std.specs.Io.KnownBytes.{Consumes, IsAtEnd}
use Rattle.json_lines.specs.Forms.{written_as}
use Rattle.json_lines.specs.declared.form.Form.{Form}
use Rattle.trace_format.specs.Grammar.{fault}
use Rattle.trace_format.specs.Text.{IsRefusal, longest}
use Rattle.trace_format.specs.declared.fault.TraceFault.{TraceFault}
use Rattle.trace_format.specs.declared.fault.Kind.TheVariants.{Memory}
use Rattle.trace_stream.specs.Streams.{Tells}
use Rattle.trace_stream.specs.declared.fault.StreamFault.{StreamFault}
use Rattle.trace_stream.specs.declared.fault.StreamFault.TheVariants as stream_fault
use Rattle.recording.specs.declared.recording.Recording.{Recording}
use Rattle.replay_report.specs.declared.showing.Shown.{Shown}
use Rattle.replay_program.specs.Recordings.{SpellsRecording, has_version_3}
use Rattle.replay_program.specs.Runs.{ReplayWantsMemoryOrThread, sequential_report}
use Rattle.replay_program.specs.declared.fault.RunFault.{RunFault}
use Rattle.replay_program.specs.declared.fault.RunFault.TheVariants.{Trace, Read}
use Rattle.replay_program.specs.declared.recordings.Taken.{Taken}
use Rattle.replay_program.specs.declared.recordings.Taken.TheVariants.{Head, Whole}

-- What was taken tells the version: of version 3 the first bytes, of another the whole text, or more of it than a trace is long.
abbrev pub TakesText : Option (List ℕ) → Option (List ℕ) → Taken → Type 0
TakesText left left' (Head head) = Consumes left left' head.items × ((more : List ℕ) → has_version_3 (head.items ++ more) ≡ true)
TakesText left left' (Whole text) = Consumes left left' text.items × (has_version_3 text.items ≡ false) × (length text.items ≤ longest → IsAtEnd left')

-- The program tells a fault of a whole text of version 1 or 2.
abbrev pub TellsOfText : List ℕ → RunFault → Type 0
TellsOfText text f = (g : TraceFault) × ((g ≡ fault Memory 0) ⊎ IsRefusal text g) × (f ≡ Trace g)

-- A fault of a stream, as the program tells it.
abbrev pub told_of : StreamFault → RunFault
told_of (stream_fault.Trace f) = Trace f
told_of stream_fault.Read = Read

-- The program tells a fault of a stream, whose first bytes were read ahead.
abbrev pub TellsOfStream : List ℕ → Option (List ℕ) → Option (List ℕ) → RunFault → Type 0
TellsOfStream ahead left left' f = (e : StreamFault) × Tells ahead left left' e × (f ≡ told_of e)

-- The report of a text of version 1 or 2, in the form that is asked for.
abbrev pub IsReportOf : List ℕ → Shown → Form → List ℕ → Type 0
IsReportOf text shown form report = (t : Recording) × (length text ≤ longest) × SpellsRecording false text t × (report ≡ written_as form (sequential_report t shown))

-- The program tells a fault of the text, or that memory ran out or a thread was refused behind it.
abbrev pub TellsOfReport : List ℕ → RunFault → Type 0
TellsOfReport text f =
    TellsOfText text f ⊎ (ReplayWantsMemoryOrThread f × ((t : Recording) × (length text ≤ longest) × SpellsRecording false text t))
