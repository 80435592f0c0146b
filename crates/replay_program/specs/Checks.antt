-- The model: what a check does to its reader and its writer. It takes traces of every version.
use Rattle.std.specs.Prelude.{◌≡◌, ◌⊎◌, ◌++◌, ⊤, Bool, true, false, codes, List, Option, ℕ, length}
use Rattle.std.specs.Fmt.{decimal}
use Rattle.std.specs.Io.KnownBytes.{Appends, Consumes, IsAtEnd}
use Rattle.trace_format.specs.Grammar.{fault}
use Rattle.trace_format.specs.Steps.{places}
use Rattle.trace_format.specs.Text.{SpellsTrace}
use Rattle.trace_format.specs.declared.fault.Kind.TheVariants.{Memory}
use Rattle.trace_format.specs.declared.trace.Trace as trace
use Rattle.trace_records.specs.Tallies as tallies
use Rattle.trace_records.specs.Whole as of_records
use Rattle.trace_records.specs.declared.trace.Trace as records
use Rattle.replay_report.specs.Report.{line}
use Rattle.json_lines.specs.Forms.{written_as}
use Rattle.replay_program.specs.Recordings.{has_version_3}
use Rattle.replay_program.specs.Runs.{ReadsNoTrace}
use Rattle.byte_transfer.specs.Transfer.{AppendsPart}
use Rattle.replay_program.specs.declared.fault.RunFault.{RunFault}
use Rattle.replay_program.specs.declared.fault.RunFault.TheVariants.{Trace, Replay, Reports, Read, Write, Different}
use Rattle.json_lines.specs.declared.form.Form.{Form}

-- The answer: how many places and rings a trace has.
abbrev pub ok_line : ℕ → ℕ → List ℕ
ok_line places rings = line (codes "ok " ++ decimal places ++ codes " places " ++ decimal rings ++ codes " rings")

-- The text spells a trace with this answer; true: of version 3.
abbrev pub IsAnswer : Bool → List ℕ → List ℕ → Type 0
IsAnswer false text answer = (t : trace.Trace) × SpellsTrace text t × (answer ≡ ok_line (places t) (length t.rings))
IsAnswer true text answer =
    (t : records.Trace) × of_records.SpellsTrace text t × (answer ≡ ok_line (tallies.places t.records) (tallies.rings t.records))

-- The reader was read to its end, and what it had left has this answer.
pub record ReadsAnswer (before after : Option (List ℕ)) (answer : List ℕ) : Type 0 where
  pub text : List ℕ
  pub taken : Consumes before after text
  pub ended : IsAtEnd after
  pub is : IsAnswer (has_version_3 text) text answer

-- The reader was read to its end, and the writer took the whole answer in this form, and nothing else.
pub record WritesAnswer (form : Form) (left left' written written' : Option (List ℕ)) : Type 0 where
  pub answer : List ℕ
  pub read : ReadsAnswer left left' answer
  pub wrote : Appends written written' (written_as form answer)

-- The reader was read to its end, and the writer took the first bytes of the answer, but not all.
pub record WritesAnswerPart (form : Form) (left left' written written' : Option (List ℕ)) : Type 0 where
  pub answer : List ℕ
  pub read : ReadsAnswer left left' answer
  pub wrote : AppendsPart written written' (written_as form answer)

-- What a fault of a check tells of the reader.
abbrev pub TellsOfCheck : (left left' : Option (List ℕ)) → RunFault → Type 0
TellsOfCheck left left' (Trace f) = (f ≡ fault Memory 0) ⊎ ReadsNoTrace left left' f
TellsOfCheck left left' (Replay f) = ⊥
TellsOfCheck left left' (Reports f) = ⊥
TellsOfCheck left left' Read = ⊤
TellsOfCheck left left' Write = (answer : List ℕ) × ReadsAnswer left left' answer
TellsOfCheck left left' Different = ⊥
