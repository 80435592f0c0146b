use Rattle.std.proofs.Common.{[]}
use Rattle.text_words.specs.Read.{rest_of}
use Rattle.text_words.proofs.Loops.{Left}
use Rattle.text_records.specs.Slots.{more_slots, slots_of}
use Rattle.text_records.proofs.slots.all_slots.Given as goal

abbrev pub invariant-loop : goal.invariant-loop
invariant-loop l = record {
  read : Left (more_slots l.table) l.end l.counter (slots_of l.slots, rest_of l.source) ((0, []), rest_of l.fn.source);
}
