use Rattle.std.proofs.Common.{◌≡◌, ◌++◌, take}
use Rattle.trace_text.specs.Shown.{numbered}
use Rattle.records_text.specs.Shown.{submitted_line}
use Rattle.records_text.proofs.records.push_entries.Given as goal

abbrev pub invariant-loop-number : goal.invariant-loop-number
invariant-loop-number l = l.text.items ≡ l.initial.text.items ++ numbered (submitted_line l.look) l.place (take l.number l.entries)
