use Rattle.std.proofs.Common.{◌≡◌}
use Rattle.trace_records.specs.Fields.{end_of}
use Rattle.trace_records.specs.Start.{range, range_end}
use Rattle.trace_records.proofs.Loops.{Left}
use Rattle.trace_records.proofs.items.ranges_of.Given as goal

-- where the last one so far ends
abbrev pub invariant-loop : goal.invariant-loop
invariant-loop l = record {
  read : Left (range l.size) l.count l.counter l.ranges.items l.source l.fn.source;
  low : end_of range_end 0 l.ranges.items ≡ l.low;
}
