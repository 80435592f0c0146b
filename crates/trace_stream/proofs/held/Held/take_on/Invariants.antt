use Rattle.std.proofs.Common.{◌≡◌, ◌-◌, ◌+◌, ◌^◌, ◌<◌, length}
use Rattle.trace_stream.proofs.Grows.{Grew}
use Rattle.trace_stream.proofs.held.Held.take_on.Given as goal

-- what came so far came behind
abbrev pub invariant-loop-some : goal.invariant-loop-some
invariant-loop-some g l = record {
  grew : Grew l.initial.self l.self (g.R.Source.left l.initial.reader) (g.R.Source.left l.reader) l.some;
  bound : l.self.place + length l.self.rest < 2 ^ 63;
  failures : g.R.Source.failures l.reader ≡ g.R.Source.failures l.initial.reader;
}

abbrev pub decreases-loop-some : goal.decreases-loop-some
decreases-loop-some g l = 2 ^ 63 - length l.self.rest
