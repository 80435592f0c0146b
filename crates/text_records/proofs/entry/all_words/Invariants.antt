use Rattle.text_words.specs.Read.{rest_of}
use Rattle.text_words.proofs.Loops.{Left}
use Rattle.text_records.specs.Entry.{more_words, told_of}
use Rattle.text_records.proofs.entry.all_words.Given as goal

abbrev pub invariant-loop : goal.invariant-loop
invariant-loop l = record {
  read : Left more_words l.end l.counter (told_of l.told, rest_of l.source) (told_of l.initial.told, rest_of l.fn.source);
}
