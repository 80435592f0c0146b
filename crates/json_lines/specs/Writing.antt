-- The model: what a writer took of a text that was not written whole.
use Rattle.std.specs.Prelude.{◌≡◌, ℕ, List, Option, Result, Ok, Err}
use Rattle.byte_transfer.specs.Transfer.{AppendsPart}
use Rattle.json_lines.specs.declared.writing.WriteFault.{WriteFault}
use Rattle.json_lines.specs.declared.writing.WriteFault.TheVariants.{Memory, Write}

-- It took a part of it, or memory ran out before.
abbrev pub IsNotWritten : (written written' : Option (List ℕ)) → List ℕ → WriteFault → Type 0
IsNotWritten written written' text Write = AppendsPart written written' text
IsNotWritten written written' text Memory = written' ≡ written

-- How many calls of the writer failed.
abbrev pub writes_of : WriteFault → ℕ
writes_of Memory = 0
writes_of Write = 1

abbrev pub writes_failed : {T : Type 0} → Result T WriteFault → ℕ
writes_failed (Ok x) = 0
writes_failed (Err e) = writes_of e
