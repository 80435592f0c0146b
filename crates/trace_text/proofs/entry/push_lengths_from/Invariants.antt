use Rattle.std.proofs.Common.{◌≡◌, ◌≤◌, ◌-◌, ◌*◌, ◌++◌, length}
use Rattle.trace_text.specs.Entry.{lengths_from}
use Rattle.trace_text.proofs.entry.push_lengths_from.Given as goal

abbrev pub invariant-loop-number : goal.invariant-loop-number
invariant-loop-number l = record { enough : 8 * (l.count - l.number) ≤ length l.rest; left : l.text.items ++ lengths_from (l.count - l.number) l.rest ≡ l.initial.text.items ++ lengths_from l.count l.bytes }
