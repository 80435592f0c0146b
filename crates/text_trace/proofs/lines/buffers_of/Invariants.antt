use Rattle.std.proofs.Common.{[]}
use Rattle.text_words.specs.Read.{rest_of}
use Rattle.text_words.proofs.Loops.{Left}
use Rattle.text_trace.specs.Parts.{more_buffers}
use Rattle.text_trace.proofs.lines.buffers_of.Given as goal

abbrev pub invariant-loop : goal.invariant-loop
invariant-loop l = record {
  read : Left more_buffers l.end l.counter (l.buffers.items, l.lines.items, rest_of l.source) ([], l.initial.lines.items, rest_of l.fn.source);
}
