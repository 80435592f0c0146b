use Rattle.std.proofs.Common.{[]}
use Rattle.text_words.specs.Read.{rest_of}
use Rattle.text_words.proofs.Loops.{Left}
use Rattle.text_records.specs.Records.{more_buffers}
use Rattle.text_records.proofs.records.buffers_of.Given as goal

abbrev pub invariant-loop : goal.invariant-loop
invariant-loop l = record {
  read : Left more_buffers l.end l.counter (l.buffers.items, l.pieces.items, rest_of l.source) ([], l.initial.pieces.items, rest_of l.fn.source);
}
