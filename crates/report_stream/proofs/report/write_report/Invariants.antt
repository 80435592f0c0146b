use Rattle.std.proofs.Common.{◌≡◌, ◌-◌, ◌^◌}
use Rattle.report_stream.specs.Steps.{UnderWay}
use Rattle.report_stream.proofs.report.write_report.Given as goal

-- the records so far were run
abbrev pub invariant-loop-pending : goal.invariant-loop-pending
invariant-loop-pending g l = record {
  under_way : UnderWay l.fn.ahead.items (g.R.Source.left l.fn.reader) (g.R.Source.left l.reader) (g.W.Sink.written l.fn.writer) (g.W.Sink.written l.writer)
      l.pending.stream l.replaying.value l.pending.text.items l.fn.asked.shown l.fn.asked.form;
  reads : g.R.Source.failures l.reader ≡ g.R.Source.failures l.fn.reader;
  writes : g.W.Sink.failures l.writer ≡ g.W.Sink.failures l.fn.writer;
}

abbrev pub decreases-loop-pending : goal.decreases-loop-pending
decreases-loop-pending g l = 2 ^ 63 - l.pending.stream.held.place
