-- The model: how the program ends, what it prints last, where, and its exit status.
use Rattle.std.specs.Prelude.{ℕ, List, ◌++◌, Option, None, Some, codes, string_bytes}
use Rattle.std.specs.Fmt.{decimal}
use Rattle.trace_format.specs.declared.fault.Kind.{Kind}
use Rattle.trace_format.specs.declared.fault.Kind.TheVariants as kind
use Rattle.replay_program.specs.declared.fault.RunFault.{RunFault}
use Rattle.replay_program.specs.declared.fault.RunFault.TheVariants.{Trace, Replay, Reports, Read, Write, Different}
use Rattle.replay_program.specs.declared.fault.ReportsFault.{ReportsFault}
use Rattle.replay_program.specs.declared.fault.ReportsFault.TheVariants as reports_fault
use Rattle.replay_program.specs.declared.ending.Ending.{Ending}
use Rattle.replay_program.specs.declared.ending.Stream.{Stream}
use Rattle.replay_program.specs.declared.ending.Stream.TheVariants.{Output, Errors}
use Rattle.program_words.specs.declared.words.Usage.{Usage}
use Rattle.program_words.specs.declared.words.UsageKind.{UsageKind}
use Rattle.program_words.specs.declared.words.UsageKind.TheVariants as usage
use Rattle.replay_core.specs.declared.serial.ReplayFault.{ReplayFault}
use Rattle.replay_core.specs.declared.serial.ReplayFault.TheVariants as replay_fault
use Rattle.report_diff.specs.Refusals.{refusal_text}

-- A refused trace, or out of memory while it is read.
abbrev pub trace_status : Kind → ℕ
trace_status kind.Memory = 3
trace_status _ = 1

-- A replay that gave nothing, being out of memory or refused a thread, or that was asked for in a wrong way.
abbrev pub replay_status : ReplayFault → ℕ
replay_status replay_fault.Memory = 3
replay_status replay_fault.NoThread = 3
replay_status replay_fault.Workers = 2
replay_status replay_fault.Window = 2

-- Refused reports, or out of memory while they are compared.
abbrev pub reports_status : ReportsFault → ℕ
reports_status reports_fault.Memory = 3
reports_status _ = 1

-- The status after each fault.
abbrev pub status_of : RunFault → ℕ
status_of (Trace fault) = trace_status fault.kind
status_of (Replay fault) = replay_status fault
status_of (Reports fault) = reports_status fault
status_of Read = 3
status_of Write = 3
status_of Different = 4

-- The name of what is wrong with a trace.
abbrev pub kind_name : Kind → List ℕ
kind_name kind.Magic = codes "Magic"
kind_name kind.Version = codes "Version"
kind_name kind.Short = codes "Short"
kind_name kind.Limit = codes "Limit"
kind_name kind.Path = codes "Path"
kind_name kind.NoParent = codes "NoParent"
kind_name kind.Exists = codes "Exists"
kind_name kind.Reference = codes "Reference"
kind_name kind.Side = codes "Side"
kind_name kind.Overlap = codes "Overlap"
kind_name kind.Trailing = codes "Trailing"
kind_name kind.Memory = codes "Memory"

-- The line of a refused trace, by what is wrong and at which byte, or that memory ran out while it is read.
abbrev pub trace_line : Kind → ℕ → List ℕ
trace_line kind.Memory at = codes "fault: memory"
trace_line what at = codes "trace refused: " ++ kind_name what ++ codes " at " ++ decimal at

-- The line of a replay that gave nothing.
abbrev pub replay_line : ReplayFault → List ℕ
replay_line replay_fault.Memory = codes "fault: memory"
replay_line replay_fault.NoThread = codes "fault: thread"
replay_line replay_fault.Workers = codes "fault: workers"
replay_line replay_fault.Window = codes "fault: window"

-- The line of reports that are not compared.
abbrev pub reports_line : ReportsFault → List ℕ
reports_line reports_fault.Memory = codes "fault: memory"
reports_line reports_fault.TooLong = codes "reports refused: more than 1073741824 bytes"
reports_line (reports_fault.Refused why) = codes "reports refused: " ++ refusal_text why

-- The line of each fault.
abbrev pub fault_line : RunFault → List ℕ
fault_line (Trace fault) = trace_line fault.kind fault.at
fault_line (Replay fault) = replay_line fault
fault_line (Reports fault) = reports_line fault
fault_line Read = codes "fault: read"
fault_line Write = codes "fault: write"
fault_line Different = codes "different"

-- The stream for the line of a fault: that of a difference is written by then.
abbrev pub fault_stream : RunFault → Option Stream
fault_stream Different = None
fault_stream _ = Some Errors

-- The ending after each fault.
abbrev pub fault_ending : RunFault → Ending
fault_ending fault = record { stream = fault_stream fault; status = status_of fault }

-- The ending where the words gave no options.
abbrev pub usage_ending : UsageKind → Ending
usage_ending usage.Help = record { stream = Some Output; status = 0 }
usage_ending usage.Version = record { stream = Some Output; status = 0 }
usage_ending usage.Wrong = record { stream = Some Errors; status = 2 }
usage_ending usage.Memory = record { stream = Some Errors; status = 3 }

-- The text that is printed then.
abbrev pub text_by_kind : UsageKind → List ℕ → List ℕ
text_by_kind usage.Help text = text
text_by_kind usage.Version text = text
text_by_kind usage.Wrong text = text
text_by_kind usage.Memory text = codes "fault: memory\n"

abbrev pub usage_text : Usage → List ℕ
usage_text usage = text_by_kind usage.kind (string_bytes usage.text)
