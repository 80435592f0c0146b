use Rattle.std.proofs.Common.{◌≡◌, ◌-◌, ◌^◌, List}
use Rattle.trace_records.specs.declared.record.Record.{Record}
use Rattle.trace_records.specs.declared.start.Start.{Start}
use Rattle.trace_stream.proofs.Going.{Going}
use Rattle.trace_stream.proofs.counting.count_stream.Given as goal

-- the records so far are those of what was taken
abbrev pub invariant-loop-stream : goal.invariant-loop-stream
invariant-loop-stream g l = record {
  going : (b : Start) × (rs : List Record) × Going l.fn.ahead.items (g.R.Source.left l.fn.reader) (g.R.Source.left l.reader) b l.stream rs;
  failures : g.R.Source.failures l.reader ≡ g.R.Source.failures l.fn.reader;
}

abbrev pub decreases-loop-stream : goal.decreases-loop-stream
decreases-loop-stream g l = 2 ^ 63 - l.stream.held.place
