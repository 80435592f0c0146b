use Rattle.std.proofs.Common.{◌≡◌, ◌-◌, ◌^◌, ◌+◌, length}
use Rattle.trace_stream.proofs.Grows.{Grows}
use Rattle.trace_stream.proofs.parts.record_on.Given as goal

-- what came so far came behind
abbrev pub invariant-loop-record : goal.invariant-loop-record
invariant-loop-record g l = record {
  grows : Grows l.fn.held l.held (g.R.Source.left l.fn.reader) (g.R.Source.left l.reader);
  failures : g.R.Source.failures l.reader ≡ g.R.Source.failures l.fn.reader;
}

abbrev pub decreases-loop-record : goal.decreases-loop-record
decreases-loop-record g l = 2 ^ 63 - (l.held.place + length l.held.rest)
