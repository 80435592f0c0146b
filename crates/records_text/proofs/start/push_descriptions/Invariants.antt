use Rattle.std.proofs.Common.{◌≡◌, ◌++◌, take}
use Rattle.trace_text.specs.Shown.{numbered}
use Rattle.records_text.specs.Shown.{description_line}
use Rattle.records_text.proofs.start.push_descriptions.Given as goal

abbrev pub invariant-loop-number : goal.invariant-loop-number
invariant-loop-number l = l.text.items ≡ l.initial.text.items ++ numbered (description_line l.items) 0 (take l.number l.descriptions)
