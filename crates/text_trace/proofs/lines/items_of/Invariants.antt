use Rattle.std.proofs.Common.{◌≡◌, []}
use Rattle.text_words.specs.Read.{rest_of}
use Rattle.text_words.proofs.Loops.{Left}
use Rattle.text_trace.specs.Items.{more_items, number_of}
use Rattle.text_trace.specs.Named.{named}
use Rattle.text_trace.proofs.lines.items_of.Given as goal

abbrev pub invariant-loop : goal.invariant-loop
invariant-loop l = record {
  read : Left more_items l.end l.counter (l.items.items, l.lines.items, rest_of l.source) ([], l.initial.lines.items, rest_of l.fn.source);
  known : named l.names ≡ number_of l.items.items;
}
