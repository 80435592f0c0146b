use Rattle.std.proofs.Common.{◌≡◌, ◌++◌, take}
use Rattle.trace_text.specs.Shown.{ring_lines, numbered}
use Rattle.trace_text.proofs.lines.push_rings.Given as goal

abbrev pub invariant-loop-number : goal.invariant-loop-number
invariant-loop-number l = l.text.items ≡ l.initial.text.items ++ numbered ring_lines 0 (take l.number l.rings)
