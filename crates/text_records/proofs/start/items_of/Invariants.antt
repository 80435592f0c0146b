use Rattle.std.proofs.Common.{◌≡◌, []}
use Rattle.text_words.specs.Read.{rest_of}
use Rattle.text_words.proofs.Loops.{Left}
use Rattle.text_trace.specs.Named.{named}
use Rattle.text_records.specs.Start.{more_items, number_of}
use Rattle.text_records.proofs.start.items_of.Given as goal

abbrev pub invariant-loop : goal.invariant-loop
invariant-loop l = record {
  read : Left more_items l.end l.counter (l.items.items, l.pieces.items, rest_of l.source) ([], l.initial.pieces.items, rest_of l.fn.source);
  known : named l.names ≡ number_of l.items.items;
}
