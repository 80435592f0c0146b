use Rattle.std.proofs.Common.{◌≡◌, map, take}
use Rattle.trace_records.specs.declared.record.FullSlot.{FullSlot}
use Rattle.op_meaning.specs.Step.{held_by}
use Rattle.op_meaning.proofs.run.all_held.Given as goal

-- what the slots so far get
abbrev pub invariant-loop-slot : goal.invariant-loop-slot
invariant-loop-slot l = l.held.items ≡ map (λ (x : FullSlot). held_by l.state x.holds) (take l.slot-index l.slots)
