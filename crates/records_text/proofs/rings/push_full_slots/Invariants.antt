use Rattle.std.proofs.Common.{◌≡◌, ◌<◌, ◌^◌, ◌+◌, ◌++◌, drop}
use Rattle.records_text.specs.Shown.{full_slot_word, table_from}
use Rattle.records_text.proofs.rings.push_full_slots.Given as goal

abbrev pub invariant-loop-slot : goal.invariant-loop-slot
invariant-loop-slot l = record {
  within : l.next < 2 ^ 32 + 1;
  left : l.text.items ++ table_from (λ s. s.number) full_slot_word l.size l.next (drop l.slot-index l.full) ≡ l.initial.text.items ++ table_from (λ s. s.number) full_slot_word l.size 0 l.full;
}
