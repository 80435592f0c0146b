use Rattle.std.proofs.Common.{[]}
use Rattle.text_words.specs.Read.{rest_of}
use Rattle.text_words.proofs.Loops.{Left}
use Rattle.text_trace.specs.Lines.{more_slots}
use Rattle.text_trace.proofs.lines.all_slots.Given as goal

abbrev pub invariant-loop : goal.invariant-loop
invariant-loop l = record {
  read : Left more_slots l.end l.counter (l.slots.items, rest_of l.source) ([], rest_of l.fn.source);
}
