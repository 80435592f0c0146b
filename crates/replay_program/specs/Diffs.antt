-- The model: what a comparison of two reports does to its reader and its writer.
use Rattle.std.specs.Prelude.{◌≡◌, ◌⊎◌, ⊤, Bool, List, Option, ℕ, None, Some, length}
use Rattle.std.specs.Io.KnownBytes.{Appends, Consumes, IsAtEnd}
use Rattle.report_diff.specs.Inputs.{passes_in, passes_of_two, differences_in, differences_of_two, refusal, refusal_of_two}
use Rattle.report_diff.specs.Refusals.{refusal_text}
use Rattle.report_diff.specs.declared.comparing.Comparison.{Comparison}
use Rattle.report_diff.specs.declared.comparing.Terms.{Terms}
use Rattle.report_diff.specs.declared.refusal.Refusal.{Refusal}
use Rattle.replay_program.specs.declared.fault.RunFault.{RunFault}
use Rattle.replay_program.specs.declared.fault.RunFault.TheVariants.{Trace, Replay, Reports, Read, Write, Different}
use Rattle.replay_program.specs.declared.fault.ReportsFault.TheVariants.{Refused, TooLong, Memory}
use Rattle.json_lines.specs.declared.form.Form.{Form}
use Rattle.json_lines.specs.Forms.{written_as}
use Rattle.replay_program.specs.Runs.{most_taken}
use Rattle.byte_transfer.specs.Transfer.{AppendsPart}

-- The reader was read to its end, and what it had left is two reports.
pub record ReadsReports (terms : Terms) (before after : Option (List ℕ)) (input : List ℕ) : Type 0 where
  pub taken : Consumes before after input
  pub ended : IsAtEnd after
  pub reports : refusal terms input ≡ None

-- The reader was read to its end, and what it had left is two reports that compare so, with the text in this form.
pub record ComparesReports (form : Form) (terms : Terms) (before after : Option (List ℕ)) (comparison : Comparison) : Type 0 where
  pub input : List ℕ
  pub read : ReadsReports terms before after input
  pub text : comparison.text.items ≡ written_as form (differences_in terms input)
  pub decided : comparison.passes ≡ passes_in terms input

-- The reader was read to its end, and what it had left is not two reports, for this reason.
pub record ReadsNoReports (terms : Terms) (before after : Option (List ℕ)) (why : Refusal) : Type 0 where
  pub input : List ℕ
  pub taken : Consumes before after input
  pub ended : IsAtEnd after
  pub refused : refusal terms input ≡ Some (refusal_text why)

-- The reader was read further than reports may be long.
pub record ReadsTooMuch (before after : Option (List ℕ)) : Type 0 where
  pub input : List ℕ
  pub taken : Consumes before after input
  pub long : length input ≡ most_taken

-- The reader was read to its end, and the writer took the whole text of the comparison in this form, and nothing else.
pub record WritesDifferences (form : Form) (terms : Terms) (passes : Bool) (left left' written written' : Option (List ℕ)) : Type 0 where
  pub input : List ℕ
  pub read : ReadsReports terms left left' input
  pub wrote : Appends written written' (written_as form (differences_in terms input))
  pub decided : passes_in terms input ≡ passes

-- The reader was read to its end, and the writer took the first bytes of the text, but not all.
pub record WritesDifferencesPart (form : Form) (terms : Terms) (left left' written written' : Option (List ℕ)) : Type 0 where
  pub input : List ℕ
  pub read : ReadsReports terms left left' input
  pub wrote : AppendsPart written written' (written_as form (differences_in terms input))

-- What a fault of a comparison tells of the reader.
abbrev pub TellsOfReports : Terms → (left left' : Option (List ℕ)) → RunFault → Type 0
TellsOfReports terms left left' (Reports (Refused why)) = ReadsNoReports terms left left' why
TellsOfReports terms left left' (Reports TooLong) = ReadsTooMuch left left'
TellsOfReports terms left left' (Reports Memory) = ⊤
TellsOfReports terms left left' Read = ⊤
TellsOfReports terms left left' Write = (input : List ℕ) × ReadsReports terms left left' input
TellsOfReports terms left left' Different = (input : List ℕ) × ReadsReports terms left left' input
TellsOfReports terms left left' (Trace f) = ⊥
TellsOfReports terms left left' (Replay f) = ⊥

-- The same of two readers, each with one report. All of a reader was read.
pub record ReadsAll (before after : Option (List ℕ)) (text : List ℕ) : Type 0 where
  pub taken : Consumes before after text
  pub ended : IsAtEnd after

-- Both were read to their ends, and what they had left are two reports.
pub record ReadsTwo (terms : Terms) (left left' more more' : Option (List ℕ)) (first second : List ℕ) : Type 0 where
  pub one : ReadsAll left left' first
  pub other : ReadsAll more more' second
  pub reports : refusal_of_two terms first second ≡ None

-- The two reports compare so.
pub record ComparesTwoReports (terms : Terms) (left left' more more' : Option (List ℕ)) (comparison : Comparison) : Type 0 where
  pub first : List ℕ
  pub second : List ℕ
  pub read : ReadsTwo terms left left' more more' first second
  pub text : comparison.text.items ≡ differences_of_two terms first second
  pub decided : comparison.passes ≡ passes_of_two terms first second

-- Both were read to their ends, and what they had left are not two reports, for this reason.
pub record ReadsNoTwo (terms : Terms) (left left' more more' : Option (List ℕ)) (why : Refusal) : Type 0 where
  pub first : List ℕ
  pub second : List ℕ
  pub one : ReadsAll left left' first
  pub other : ReadsAll more more' second
  pub refused : refusal_of_two terms first second ≡ Some (refusal_text why)

-- What a fault tells of both readers.
abbrev pub TellsOfTwoReports : Terms → (left left' more more' : Option (List ℕ)) → RunFault → Type 0
TellsOfTwoReports terms left left' more more' (Reports (Refused why)) = ReadsNoTwo terms left left' more more' why
TellsOfTwoReports terms left left' more more' (Reports TooLong) = ReadsTooMuch left left' ⊎ ReadsTooMuch more more'
TellsOfTwoReports terms left left' more more' (Reports Memory) = ⊤
TellsOfTwoReports terms left left' more more' Read = ⊤
TellsOfTwoReports terms left left' more more' Write = (first : List ℕ) × (second : List ℕ) × ReadsTwo terms left left' more more' first second
TellsOfTwoReports terms left left' more more' Different = (first : List ℕ) × (second : List ℕ) × ReadsTwo terms left left' more more' first second
TellsOfTwoReports terms left left' more more' (Trace f) = ⊥
TellsOfTwoReports terms left left' more more' (Replay f) = ⊥

-- What a fault tells of one of them, before both are there.
abbrev pub TellsOfText : (left left' : Option (List ℕ)) → RunFault → Type 0
TellsOfText left left' (Reports TooLong) = ReadsTooMuch left left'
TellsOfText left left' (Reports Memory) = ⊤
TellsOfText left left' Read = ⊤
TellsOfText left left' other = ⊥
