-- The model: what a run of the program does to its reader and its writer.
use Rattle.std.specs.Prelude.{◌≡◌, ◌⊎◌, ◌≤◌, ◌+◌, ◌++◌, ⊤, codes, Bool, true, false, List, Option, ℕ, Result, Ok, Err, length}
use Rattle.std.specs.Fmt.{decimal}
use Rattle.std.specs.Io.KnownBytes.{Appends, Consumes, IsAtEnd}
use Rattle.trace_format.specs.Grammar.{fault}
use Rattle.trace_format.specs.Text.{longest}
use Rattle.recording.specs.declared.recording.Recording.{Recording}
use Rattle.trace_format.specs.declared.fault.TraceFault.{TraceFault}
use Rattle.trace_format.specs.declared.fault.Kind.TheVariants.{Memory}
use Rattle.op_meaning.specs.Step.{sequential_world, sequential_replies}
use Rattle.replay_core.specs.Comparing.{WantsMemoryOrThread}
use Rattle.replay_core.specs.declared.serial.ReplayFault.TheVariants as replay_fault
use Rattle.replay_core.specs.declared.difference.Verdict.{Verdict}
use Rattle.replay_core.specs.declared.difference.Verdict.TheVariants as verdict
use Rattle.replay_program.specs.declared.fault.RunFault.{RunFault}
use Rattle.replay_program.specs.declared.fault.RunFault.TheVariants.{Trace, Replay, Reports, Read, Write, Different}
use Rattle.program_words.specs.declared.words.Options.{Options}
use Rattle.program_words.specs.declared.words.Mode.{Mode}
use Rattle.program_words.specs.declared.words.Mode.TheVariants.{Serial, Run, Compare, Rounds, Depends, Check}
use Rattle.replay_report.specs.Report.{check_line, line, report_of}
use Rattle.replay_report.specs.declared.showing.Shown.{Shown}
use Rattle.round_report.specs.Rounds.{graph_text, log_of, rounds_text}
use Rattle.depend_report.specs.Whole.{IsTextOf}
use Rattle.json_lines.specs.Forms.{written_as}
use Rattle.replay_program.specs.Forms.{form_in}
use Rattle.replay_program.specs.Recordings.{has_version_3, SpellsRecording, IsEnough, IsFaultOf}
use Rattle.byte_transfer.specs.Transfer.{AppendsPart}
use Rattle.json_lines.specs.declared.form.Form.{Form}

-- The report of the sequential run of a trace.
abbrev pub sequential_report : Recording → Shown → List ℕ
sequential_report t shown = report_of t (sequential_world t) (sequential_replies t) shown

-- What a comparison writes: that both runs give the same, or else the first place whose replies differ, or that the worlds do.
abbrev pub verdict_line : Verdict → List ℕ
verdict_line verdict.Equal = line (codes "equal")
verdict_line (verdict.Reply place) = line (codes "different reply " ++ decimal place)
verdict_line verdict.World = line (codes "different world")

-- What the rounds of a trace give: lines, or a graph.
abbrev pub rounds_output : Bool → Recording → ℕ → List ℕ
rounds_output false t window = rounds_text t (log_of t window)
rounds_output true t window = graph_text t (log_of t window)

-- The output for a trace, by the mode.
abbrev pub IsModeOutput : Mode → Shown → Recording → List ℕ → Type 0
IsModeOutput Serial shown t output = output ≡ sequential_report t shown
IsModeOutput (Run workers window eager) shown t output = output ≡ sequential_report t shown
IsModeOutput (Compare workers window eager) shown t output = output ≡ verdict_line verdict.Equal
IsModeOutput (Rounds window dot) shown t output = output ≡ rounds_output dot t window
IsModeOutput (Depends dot) shown t output = IsTextOf dot t output
IsModeOutput Check shown t output = output ≡ check_line t

-- The same in the form that is asked for.
pub record IsOutputOf (options : Options) (form : Form) (t : Recording) (output : List ℕ) : Type 0 where
  pub text : List ℕ
  pub is : IsModeOutput options.mode options.shown t text
  pub written : output ≡ written_as (form_in options.mode form) text

-- The reader was read to its end, and what it had left spells a trace of this recording.
pub record ReadsTrace (before after : Option (List ℕ)) (t : Recording) : Type 0 where
  pub text : List ℕ
  pub taken : Consumes before after text
  pub ended : IsAtEnd after
  pub spelled : SpellsRecording (has_version_3 text) text t

-- So much of the reader was read as decides the fault, and what was taken has it and spells no trace.
pub record ReadsNoTrace (before after : Option (List ℕ)) (f : TraceFault) : Type 0 where
  pub text : List ℕ
  pub taken : Consumes before after text
  pub enough : IsEnough (has_version_3 text) text f after
  pub refused : IsFaultOf (has_version_3 text) text f

-- The reader was read to its end, and the writer took the whole output for its trace, and nothing else.
pub record WritesOutput (options : Options) (form : Form) (left left' written written' : Option (List ℕ)) : Type 0 where
  pub t : Recording
  pub output : List ℕ
  pub read : ReadsTrace left left' t
  pub is : IsOutputOf options form t output
  pub wrote : Appends written written' output

-- The reader was read to its end, and the writer took the first bytes of the output for its trace, but not all.
pub record WritesPart (options : Options) (form : Form) (left left' written written' : Option (List ℕ)) : Type 0 where
  pub t : Recording
  pub output : List ℕ
  pub read : ReadsTrace left left' t
  pub is : IsOutputOf options form t output
  pub wrote : AppendsPart written written' output

-- The most bytes that are taken of a text that is read whole: one more than a trace of version 1 or 2 may have.
abbrev pub most_taken : ℕ
most_taken = longest + 1

-- The known bytes lost their first bytes: at most so many, unless these begin a trace of version 3.
abbrev pub TakesTrace : Option (List ℕ) → Option (List ℕ) → Type 0
TakesTrace left left' = (bytes : List ℕ) × Consumes left left' bytes × (has_version_3 bytes ≡ false → length bytes ≤ most_taken)

-- A run with a replay that was refused memory or a thread.
abbrev pub ReplayWantsMemoryOrThread : RunFault → Type 0
ReplayWantsMemoryOrThread f = (f ≡ Replay replay_fault.Memory) ⊎ (f ≡ Replay replay_fault.NoThread)

-- What a fault tells of the reader: a trace is refused by the fault that the text has; memory that ran out before the trace was there is at 0.
abbrev pub TellsOfReading : (left left' : Option (List ℕ)) → RunFault → Type 0
TellsOfReading left left' (Trace f) = (f ≡ fault Memory 0) ⊎ ReadsNoTrace left left' f
TellsOfReading left left' (Replay f) = WantsMemoryOrThread f × ((t : Recording) × ReadsTrace left left' t)
TellsOfReading left left' (Reports f) = ⊥
TellsOfReading left left' Read = ⊤
TellsOfReading left left' Different = ⊥
TellsOfReading left left' Write = (t : Recording) × ReadsTrace left left' t

-- How many calls of the reader failed in a run, by how it ended; and how many of the writer.
abbrev pub reads_failed : RunFault → ℕ
reads_failed (Trace f) = 0
reads_failed (Replay f) = 0
reads_failed (Reports f) = 0
reads_failed Read = 1
reads_failed Write = 0
reads_failed Different = 0

abbrev pub read_failures : {T : Type 0} → Result T RunFault → ℕ
read_failures (Ok x) = 0
read_failures (Err f) = reads_failed f

abbrev pub writes_failed : RunFault → ℕ
writes_failed (Trace f) = 0
writes_failed (Replay f) = 0
writes_failed (Reports f) = 0
writes_failed Read = 0
writes_failed Write = 1
writes_failed Different = 0

abbrev pub write_failures : {T : Type 0} → Result T RunFault → ℕ
write_failures (Ok x) = 0
write_failures (Err f) = writes_failed f

-- The modes that need no thread.
abbrev pub IsAlone : Mode → Type 0
IsAlone Serial = ⊤
IsAlone (Run workers window eager) = ⊥
IsAlone (Compare workers window eager) = ⊥
IsAlone (Rounds window dot) = ⊥
IsAlone (Depends dot) = ⊤
IsAlone Check = ⊤

-- The modes that write no verdict.
abbrev pub IsNoComparison : Mode → Type 0
IsNoComparison Serial = ⊤
IsNoComparison (Run workers window eager) = ⊤
IsNoComparison (Compare workers window eager) = ⊥
IsNoComparison (Rounds window dot) = ⊤
IsNoComparison (Depends dot) = ⊤
IsNoComparison Check = ⊤
