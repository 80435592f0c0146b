use Rattle.text_words.specs.Read.{rest_of}
use Rattle.text_words.proofs.Loops.{Left}
use Rattle.text_records.specs.Start.{more_bytes}
use Rattle.text_records.proofs.start.all_bytes.Given as goal

abbrev pub invariant-loop : goal.invariant-loop
invariant-loop l = record {
  read : Left more_bytes l.end l.counter (l.bytes.items, rest_of l.source) (l.initial.bytes.items, rest_of l.fn.source);
}
