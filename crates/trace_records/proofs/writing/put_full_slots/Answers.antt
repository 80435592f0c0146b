use Rattle.trace_format.proofs.Adds.{adds_at}
use Rattle.trace_records.specs.Spelling.{full_slot_bytes}
use Rattle.trace_records.specs.declared.record.FullSlot.{FullSlot}
use Rattle.trace_records.specs.declared.record.Holder.TheVariants.{Slot}
use Rattle.trace_records.proofs.writing.put_full_slots.Goals as goal

pub loop-slot-preserved : goal.loop-slot-preserved
loop-slot-preserved c =
    let other : FullSlot = record { number = 0; holds = Slot 0 0 } in
    adds_at _ _ _ full_slot_bytes _ _ other c.loop-slot-test.true c.loop-slot.invariant c.in_ok-put_full_slot.ensures
