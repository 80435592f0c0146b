use Rattle.std.proofs.Common.{◌≡◌, ◌-◌, ◌^◌, ◌+◌, length}
use Rattle.trace_stream.proofs.Grows.{Grows}
use Rattle.trace_stream.proofs.parts.start_on.Given as goal

-- what came so far came behind
abbrev pub invariant-loop-start : goal.invariant-loop-start
invariant-loop-start g l = record {
  grows : Grows l.fn.held l.held (g.R.Source.left l.fn.reader) (g.R.Source.left l.reader);
  failures : g.R.Source.failures l.reader ≡ g.R.Source.failures l.fn.reader;
}

abbrev pub decreases-loop-start : goal.decreases-loop-start
decreases-loop-start g l = 2 ^ 63 - (l.held.place + length l.held.rest)
