use Rattle.std.proofs.Common.{◌≡◌, ◌≤◌, length}
use Rattle.trace_format.specs.Text.{one_record}
use Rattle.trace_format.specs.Counts.{places_in, places_limit}
use Rattle.trace_format.proofs.Loops.{Left}
use Rattle.trace_format.proofs.records.records_of.Given as goal

-- the places so far are counted
abbrev pub invariant-loop : goal.invariant-loop
invariant-loop l = record {
  used : l.used ≡ places_in l.records.items;
  within : l.used ≤ places_limit;
  counted : length l.records.items ≡ l.counter;
  read : Left (λ earlier. one_record l.rings (places_in earlier)) l.count l.counter l.records.items l.source l.fn.source;
}
