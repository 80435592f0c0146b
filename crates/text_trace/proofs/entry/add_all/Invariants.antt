use Rattle.text_words.specs.Read.{rest_of}
use Rattle.text_words.proofs.Loops.{Left}
use Rattle.text_trace.specs.Entry.{draft_of, more_words}
use Rattle.text_trace.proofs.entry.add_all.Given as goal

abbrev pub invariant-loop : goal.invariant-loop
invariant-loop l = record {
  read : Left more_words l.end l.counter (draft_of l.draft, rest_of l.source) (draft_of l.initial.draft, rest_of l.fn.source);
}
