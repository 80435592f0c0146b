-- The model: what a comparison of two reports with the entries of a trace of any version does to its readers and its writer.
use Rattle.std.specs.Prelude.{◌≡◌, ⊤, Bool, List, Option, ℕ}
use Rattle.std.specs.Io.KnownBytes.{Appends}
use Rattle.records_text.specs.Below as of_records
use Rattle.trace_text.specs.Below as of_whole
use Rattle.report_diff.specs.Inputs.{passes_in, passes_of_two, differences_in, differences_of_two}
use Rattle.report_diff.specs.declared.comparing.Comparison.{Comparison}
use Rattle.report_diff.specs.declared.comparing.Terms.{Terms}
use Rattle.replay_program.specs.declared.any_trace.AnyTrace.{AnyTrace}
use Rattle.replay_program.specs.declared.any_trace.AnyTrace.TheVariants as any
use Rattle.replay_program.specs.declared.fault.RunFault.{RunFault}
use Rattle.replay_program.specs.declared.fault.RunFault.TheVariants.{Trace, Replay, Reports, Read, Write, Different}
use Rattle.replay_program.specs.AnyTraces.{ReadsAny, TellsOfAny}
use Rattle.replay_program.specs.Diffs.{ReadsReports, ReadsTwo, TellsOfReports, TellsOfTwoReports}
use Rattle.byte_transfer.specs.Transfer.{AppendsPart}

-- A text of differences with the entries of a trace, by its version.
abbrev pub with_entries : AnyTrace → List ℕ → List ℕ
with_entries (any.Whole t) text = of_whole.with_entries t text
with_entries (any.Records t) text = of_records.with_entries t text

-- The text of the comparison, with the entry of the trace below each line that differs and is of one.
abbrev pub shown_differences : Terms → AnyTrace → List ℕ → List ℕ
shown_differences terms t input = with_entries t (differences_in terms input)

abbrev pub shown_differences_of_two : Terms → AnyTrace → List ℕ → List ℕ → List ℕ
shown_differences_of_two terms t first second = with_entries t (differences_of_two terms first second)

-- The reader of the trace was read to its end, and what it had left spells a trace.
abbrev pub ReadsSome : Option (List ℕ) → Option (List ℕ) → Type 0
ReadsSome before after = (t : AnyTrace) × ReadsAny before after t

-- Both readers were read to their ends, that of the trace and that of two reports, which compare so.
pub record ComparesShown (terms : Terms) (steps steps' left left' : Option (List ℕ)) (comparison : Comparison) : Type 0 where
  pub t : AnyTrace
  pub input : List ℕ
  pub spelled : ReadsAny steps steps' t
  pub read : ReadsReports terms left left' input
  pub text : comparison.text.items ≡ shown_differences terms t input
  pub decided : comparison.passes ≡ passes_in terms input

-- They were read so, and the writer took the whole text, and nothing else.
pub record WritesShownDifferences (terms : Terms) (passes : Bool) (steps steps' left left' written written' : Option (List ℕ)) : Type 0 where
  pub t : AnyTrace
  pub input : List ℕ
  pub spelled : ReadsAny steps steps' t
  pub read : ReadsReports terms left left' input
  pub wrote : Appends written written' (shown_differences terms t input)
  pub decided : passes_in terms input ≡ passes

-- They were read so, and the writer took the first bytes of the text, but not all.
pub record WritesShownDifferencesPart (terms : Terms) (steps steps' left left' written written' : Option (List ℕ)) : Type 0 where
  pub t : AnyTrace
  pub input : List ℕ
  pub spelled : ReadsAny steps steps' t
  pub read : ReadsReports terms left left' input
  pub wrote : AppendsPart written written' (shown_differences terms t input)

-- What a fault tells of both readers: the trace is read first.
abbrev pub TellsOfShown : Terms → (steps steps' left left' : Option (List ℕ)) → RunFault → Type 0
TellsOfShown terms steps steps' left left' (Trace f) = TellsOfAny steps steps' (Trace f)
TellsOfShown terms steps steps' left left' (Replay f) = TellsOfAny steps steps' (Replay f)
TellsOfShown terms steps steps' left left' (Reports f) = ReadsSome steps steps' × TellsOfReports terms left left' (Reports f)
TellsOfShown terms steps steps' left left' Read = ⊤
TellsOfShown terms steps steps' left left' Write = ReadsSome steps steps' × TellsOfReports terms left left' Write
TellsOfShown terms steps steps' left left' Different = ReadsSome steps steps' × TellsOfReports terms left left' Different

-- The same of three readers, where each report has its own.
pub record ComparesShownTwo (terms : Terms) (steps steps' left left' more more' : Option (List ℕ)) (comparison : Comparison) : Type 0 where
  pub t : AnyTrace
  pub first : List ℕ
  pub second : List ℕ
  pub spelled : ReadsAny steps steps' t
  pub read : ReadsTwo terms left left' more more' first second
  pub text : comparison.text.items ≡ shown_differences_of_two terms t first second
  pub decided : comparison.passes ≡ passes_of_two terms first second

-- They were read so, and the writer took the whole text, and nothing else.
pub record WritesShownDifferencesOfTwo (terms : Terms) (passes : Bool) (steps steps' left left' more more' written written' : Option (List ℕ)) : Type 0 where
  pub t : AnyTrace
  pub first : List ℕ
  pub second : List ℕ
  pub spelled : ReadsAny steps steps' t
  pub read : ReadsTwo terms left left' more more' first second
  pub wrote : Appends written written' (shown_differences_of_two terms t first second)
  pub decided : passes_of_two terms first second ≡ passes

-- They were read so, and the writer took the first bytes of the text, but not all.
pub record WritesShownPartOfTwo (terms : Terms) (steps steps' left left' more more' written written' : Option (List ℕ)) : Type 0 where
  pub t : AnyTrace
  pub first : List ℕ
  pub second : List ℕ
  pub spelled : ReadsAny steps steps' t
  pub read : ReadsTwo terms left left' more more' first second
  pub wrote : AppendsPart written written' (shown_differences_of_two terms t first second)

-- What a fault tells of the three.
abbrev pub TellsOfShownTwo : Terms → (steps steps' left left' more more' : Option (List ℕ)) → RunFault → Type 0
TellsOfShownTwo terms steps steps' left left' more more' (Trace f) = TellsOfAny steps steps' (Trace f)
TellsOfShownTwo terms steps steps' left left' more more' (Replay f) = TellsOfAny steps steps' (Replay f)
TellsOfShownTwo terms steps steps' left left' more more' (Reports f) = ReadsSome steps steps' × TellsOfTwoReports terms left left' more more' (Reports f)
TellsOfShownTwo terms steps steps' left left' more more' Read = ⊤
TellsOfShownTwo terms steps steps' left left' more more' Write = ReadsSome steps steps' × TellsOfTwoReports terms left left' more more' Write
TellsOfShownTwo terms steps steps' left left' more more' Different = ReadsSome steps steps' × TellsOfTwoReports terms left left' more more' Different
