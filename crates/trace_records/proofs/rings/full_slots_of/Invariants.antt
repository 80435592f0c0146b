use Rattle.std.proofs.Common.{◌≡◌}
use Rattle.trace_records.specs.Fields.{end_of}
use Rattle.trace_records.specs.Records.{full_slot, slot_end}
use Rattle.trace_records.proofs.Loops.{Left}
use Rattle.trace_records.proofs.rings.full_slots_of.Given as goal

-- where the last one so far ends
abbrev pub invariant-loop : goal.invariant-loop
invariant-loop l = record {
  read : Left (full_slot l.start l.front l.slots) l.count l.counter l.full.items l.source l.fn.source;
  low : end_of slot_end 0 l.full.items ≡ l.low;
}
