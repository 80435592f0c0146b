use Rattle.std.proofs.Common.{◌≡◌, ◌++◌, take}
use Rattle.trace_text.specs.Shown.{numbered}
use Rattle.trace_text.specs.Entry.{entry_line}
use Rattle.trace_text.proofs.lines.push_entries.Given as goal

abbrev pub invariant-loop-number : goal.invariant-loop-number
invariant-loop-number l = l.text.items ≡ l.initial.text.items ++ numbered (entry_line l.look) l.place (take l.number l.entries)
