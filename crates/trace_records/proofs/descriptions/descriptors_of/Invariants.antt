use Rattle.std.proofs.Common.{◌≡◌}
use Rattle.trace_records.specs.Fields.{end_of}
use Rattle.trace_records.specs.Start.{descriptor, descriptor_end}
use Rattle.trace_records.proofs.Loops.{Left}
use Rattle.trace_records.proofs.descriptions.descriptors_of.Given as goal

-- where the last one so far ends
abbrev pub invariant-loop : goal.invariant-loop
invariant-loop l = record {
  read : Left (descriptor l.table_size l.descriptions) l.count l.counter l.descriptors.items l.source l.fn.source;
  low : end_of descriptor_end 0 l.descriptors.items ≡ l.low;
}
