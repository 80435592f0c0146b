-- The model: what showing a trace of any version does to its reader and its writer.
use Rattle.std.specs.Prelude.{List, Option, ℕ}
use Rattle.std.specs.Io.KnownBytes.{Appends}
use Rattle.records_text.specs.Shown as of_records
use Rattle.trace_text.specs.Shown as of_whole
use Rattle.trace_text.specs.declared.look.Look.{Look}
use Rattle.replay_program.specs.declared.any_trace.AnyTrace.{AnyTrace}
use Rattle.replay_program.specs.declared.any_trace.AnyTrace.TheVariants.{Whole, Records}
use Rattle.replay_program.specs.AnyTraces.{ReadsAny}
use Rattle.byte_transfer.specs.Transfer.{AppendsPart}

-- The text of a trace, by its version.
abbrev pub text_of : Look → AnyTrace → List ℕ
text_of look (Whole t) = of_whole.text_of look t
text_of look (Records t) = of_records.text_of look t

-- The reader was read to its end, and the writer took the whole text of its trace, and nothing else.
pub record WritesShown (look : Look) (left left' written written' : Option (List ℕ)) : Type 0 where
  pub t : AnyTrace
  pub read : ReadsAny left left' t
  pub wrote : Appends written written' (text_of look t)

-- The reader was read to its end, and the writer took the first bytes of the text of its trace, but not all.
pub record WritesShownPart (look : Look) (left left' written written' : Option (List ℕ)) : Type 0 where
  pub t : AnyTrace
  pub read : ReadsAny left left' t
  pub wrote : AppendsPart written written' (text_of look t)
