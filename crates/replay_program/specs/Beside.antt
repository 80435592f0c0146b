-- The model: what a comparison of two reports that are read side by side does to its readers and its writer.
use Rattle.std.specs.Prelude.{ℕ, false, List, Option}
use Rattle.diff_stream.specs.Compared.{WritesComparison, WritesRefused, WritesSome}
use Rattle.json_lines.specs.declared.form.Form.{Form}
use Rattle.report_diff.specs.declared.comparing.Terms.{Terms}
use Rattle.diff_stream.specs.declared.fault.CompareFault.{CompareFault}
use Rattle.diff_stream.specs.declared.fault.CompareFault.TheVariants as compare
use Rattle.replay_program.specs.declared.fault.RunFault.{RunFault}
use Rattle.replay_program.specs.declared.fault.RunFault.TheVariants.{Trace, Replay, Reports, Read, Write, Different}
use Rattle.replay_program.specs.declared.fault.ReportsFault.TheVariants.{Refused, TooLong, Memory}

-- How the program tells of a comparison that was not written whole.
abbrev pub compare_told : CompareFault → RunFault
compare_told (compare.Refused why) = Reports (Refused why)
compare_told compare.Memory = Reports Memory
compare_told compare.Read = Read
compare_told compare.Write = Write

-- What was written, in this form, before a fault: the whole text where the reports differ; what is told early of them where they are refused; else a beginning of what the bytes so far tell.
abbrev pub DiffUpTo : Form → Terms → (left left' more more' written written' : Option (List ℕ)) → RunFault → Type 0
DiffUpTo form terms left left' more more' written written' Different = WritesComparison form terms left left' more more' written written' false
DiffUpTo form terms left left' more more' written written' (Reports (Refused why)) = WritesRefused form terms why left left' more more' written written'
DiffUpTo form terms left left' more more' written written' (Reports Memory) = WritesSome form terms left left' more more' written written'
DiffUpTo form terms left left' more more' written written' (Reports TooLong) = ⊥
DiffUpTo form terms left left' more more' written written' Read = WritesSome form terms left left' more more' written written'
DiffUpTo form terms left left' more more' written written' Write = WritesSome form terms left left' more more' written written'
DiffUpTo form terms left left' more more' written written' (Trace f) = ⊥
DiffUpTo form terms left left' more more' written written' (Replay f) = ⊥
