use Rattle.std.proofs.Common.{◌≡◌, ◌-◌, ◌^◌}
use Rattle.trace_stream.proofs.Going.{Going}
use Rattle.trace_stream.proofs.reading.read_stream.Given as goal

-- the records so far are those of what was taken
abbrev pub invariant-loop-records : goal.invariant-loop-records
invariant-loop-records g l = record {
  going : Going l.fn.ahead.items (g.R.Source.left l.fn.reader) (g.R.Source.left l.reader) l.start l.stream l.records.items;
  failures : g.R.Source.failures l.reader ≡ g.R.Source.failures l.fn.reader;
}

abbrev pub decreases-loop-records : goal.decreases-loop-records
decreases-loop-records g l = 2 ^ 63 - l.stream.held.place
