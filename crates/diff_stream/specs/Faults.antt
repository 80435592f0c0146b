-- A helper: how faults of the parts are told, and which of them are failed calls.
use Rattle.std.specs.Prelude.{⊤, ℕ, Result, Ok, Err}
use Rattle.byte_transfer.specs.declared.transfer.TextFault.{TextFault}
use Rattle.byte_transfer.specs.declared.transfer.TextFault.TheVariants as text
use Rattle.json_lines.specs.declared.writing.WriteFault.{WriteFault}
use Rattle.json_lines.specs.declared.writing.WriteFault.TheVariants as write
use Rattle.report_diff.specs.declared.comparing.DiffFault.{DiffFault}
use Rattle.report_diff.specs.declared.comparing.DiffFault.TheVariants as diff
use Rattle.diff_stream.specs.declared.fault.CompareFault.{CompareFault}
use Rattle.diff_stream.specs.declared.fault.CompareFault.TheVariants.{Refused, Memory, Read, Write}

-- How faults of the parts are told.
abbrev pub of_text : TextFault → CompareFault
of_text text.Read = Read
of_text text.Memory = Memory

abbrev pub of_write : WriteFault → CompareFault
of_write write.Memory = Memory
of_write write.Write = Write

abbrev pub of_diff : DiffFault → CompareFault
of_diff (diff.Refused why) = Refused why
of_diff diff.Memory = Memory

-- How many calls of the writer failed.
abbrev pub writes_of : CompareFault → ℕ
writes_of (Refused why) = 0
writes_of Memory = 0
writes_of Read = 0
writes_of Write = 1

abbrev pub writes_failed : {T : Type 0} → Result T CompareFault → ℕ
writes_failed (Ok x) = 0
writes_failed (Err e) = writes_of e

-- It is no reason why texts are not two reports.
abbrev pub IsOutside : CompareFault → Type 0
IsOutside (Refused why) = ⊥
IsOutside other = ⊤
