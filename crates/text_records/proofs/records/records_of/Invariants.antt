use Rattle.std.proofs.Common.{◌≡◌, ◌≤◌, []}
use Rattle.trace_records.specs.Tallies.{rings}
use Rattle.text_words.specs.Read.{rest_of}
use Rattle.text_words.proofs.Loops.{Left}
use Rattle.text_records.specs.Records.{more_records}
use Rattle.text_records.proofs.records.records_of.Given as goal

abbrev pub invariant-loop : goal.invariant-loop
invariant-loop l = record {
  read : Left more_records l.end l.counter (l.records.items, l.pieces.items, rest_of l.source) ([], l.initial.pieces.items, rest_of l.fn.source);
  counted : l.count ≡ rings l.records.items;
  few : l.count ≤ l.counter;
}
