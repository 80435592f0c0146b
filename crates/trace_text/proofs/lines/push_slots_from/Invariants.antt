use Rattle.std.proofs.Common.{◌≡◌, ◌≤◌, ◌++◌, drop}
use Rattle.trace_text.specs.Shown.{slots_from}
use Rattle.trace_text.proofs.lines.push_slots_from.Given as goal

abbrev pub invariant-loop-slot : goal.invariant-loop-slot
invariant-loop-slot l = record { few : l.empty ≤ l.slot-index; left : l.text.items ++ slots_from l.empty (drop l.slot-index l.slots) ≡ l.initial.text.items ++ slots_from 0 l.slots }
