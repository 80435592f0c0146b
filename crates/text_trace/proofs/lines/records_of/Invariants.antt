use Rattle.std.proofs.Common.{◌≡◌, ◌≤◌, [], length}
use Rattle.trace_format.specs.Counts.{places_in, places_limit}
use Rattle.text_words.specs.Read.{rest_of}
use Rattle.text_words.proofs.Loops.{Left}
use Rattle.text_trace.specs.Records.{more_records}
use Rattle.text_trace.proofs.lines.records_of.Given as goal

abbrev pub invariant-loop : goal.invariant-loop
invariant-loop l = record {
  read : Left more_records l.end l.counter (l.records.items, l.lines.items, rest_of l.source) ([], l.initial.lines.items, rest_of l.fn.source);
  used : l.used ≡ places_in l.records.items;
  within : l.used ≤ places_limit;
  few : length l.records.items ≤ places_limit;
}
