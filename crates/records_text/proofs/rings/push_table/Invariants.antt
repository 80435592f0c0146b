use Rattle.std.proofs.Common.{◌≡◌, ◌<◌, ◌^◌, ◌+◌, ◌++◌, drop}
use Rattle.records_text.specs.Shown.{descriptor_word, table_from}
use Rattle.records_text.proofs.rings.push_table.Given as goal

abbrev pub invariant-loop-descriptor : goal.invariant-loop-descriptor
invariant-loop-descriptor l = record {
  within : l.next < 2 ^ 32 + 1;
  left : l.text.items ++ table_from (λ d. d.number) descriptor_word l.size l.next (drop l.descriptor-index l.full) ≡ l.initial.text.items ++ table_from (λ d. d.number) descriptor_word l.size 0 l.full;
}
