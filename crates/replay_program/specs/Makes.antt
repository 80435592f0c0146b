-- The model: what making a trace of any version from text does to its reader and its writer, and how the program ends after it.
use Rattle.std.specs.Prelude.{⊤, List, Option, ℕ, Result, Err}
use Rattle.std.specs.Io.KnownBytes.{Appends}
use Rattle.text_records.specs.Whole.{IsTold, MeansBytes, has_version_3}
use Rattle.text_trace.specs.declared.fault.MakeFault.TheVariants as fault
use Rattle.replay_program.specs.declared.making.MakingFault.{MakingFault}
use Rattle.replay_program.specs.declared.making.MakingFault.TheVariants.{Text, TooLong, Memory, Read, Write}
use Rattle.replay_program.specs.Diffs.{ReadsAll, ReadsTooMuch}
use Rattle.byte_transfer.specs.Transfer.{AppendsPart}

-- The text means bytes, which are those of a trace, and the writer took them, and nothing else.
pub record WritesMeant (text : List ℕ) (written written' : Option (List ℕ)) : Type 0 where
  pub bytes : List ℕ
  pub meant : MeansBytes (has_version_3 text) text bytes
  pub wrote : Appends written written' bytes

-- The same, but the writer took the first of them alone.
pub record WritesMeantPart (text : List ℕ) (written written' : Option (List ℕ)) : Type 0 where
  pub bytes : List ℕ
  pub meant : MeansBytes (has_version_3 text) text bytes
  pub wrote : AppendsPart written written' bytes

-- The reader was read to its end, and the writer took what its text means.
pub record WritesTrace (left left' written written' : Option (List ℕ)) : Type 0 where
  pub text : List ℕ
  pub read : ReadsAll left left' text
  pub wrote : WritesMeant text written written'

pub record WritesTracePart (left left' written written' : Option (List ℕ)) : Type 0 where
  pub text : List ℕ
  pub read : ReadsAll left left' text
  pub wrote : WritesMeantPart text written written'

-- A fault of a text is its first one, told by line and column.
abbrev pub TellsOfText : List ℕ → MakingFault → Type 0
TellsOfText text (Text f) = IsTold (has_version_3 text) text (fault.Text f)
TellsOfText text TooLong = ⊥
TellsOfText text Memory = ⊤
TellsOfText text Read = ⊥
TellsOfText text Write = ⊤

-- What a fault tells of the reader: where it is no matter of reading, all of it was read, and a fault of the text is that of what was read.
abbrev pub TellsOfMaking : (left left' : Option (List ℕ)) → MakingFault → Type 0
TellsOfMaking left left' (Text f) = (text : List ℕ) × ReadsAll left left' text × IsTold (has_version_3 text) text (fault.Text f)
TellsOfMaking left left' TooLong = ReadsTooMuch left left'
TellsOfMaking left left' Memory = ⊤
TellsOfMaking left left' Read = ⊤
TellsOfMaking left left' Write = (text : List ℕ) × ReadsAll left left' text

-- How many calls of the reader failed, and how many of the writer, by how making ended.
abbrev pub reads_failed : Result ⊤ MakingFault → ℕ
reads_failed (Err Read) = 1
reads_failed _ = 0

abbrev pub writes_failed : Result ⊤ MakingFault → ℕ
writes_failed (Err Write) = 1
writes_failed _ = 0

-- The exit status of the program: 1 where the text is refused, else 3.
abbrev pub making_status : MakingFault → ℕ
making_status (Text f) = 1
making_status TooLong = 1
making_status _ = 3
