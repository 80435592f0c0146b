use Rattle.trace_format.specs.Spans.{KnowsSpans}
use Rattle.trace_format.specs.Text.{buffer}
use Rattle.trace_records.proofs.Loops.{Left}
use Rattle.trace_records.proofs.rings.buffers_of.Given as goal

-- the map has the buffers so far
abbrev pub invariant-loop : goal.invariant-loop
invariant-loop l = record {
  read : Left buffer l.count l.counter l.buffers.items l.source l.fn.source;
  known : KnowsSpans l.spans l.buffers.items;
}
