use Rattle.std.proofs.Common.{◌≡◌, ◌-◌, ◌^◌, ℕ, List, Option}
use Rattle.byte_transfer.specs.Transfer.{Takes}
use Rattle.report_diff.specs.Merging.{passed_lines}
use Rattle.diff_stream.specs.Steps.{IsUnderWay, Stands}
use Rattle.diff_stream.proofs.merge.merge.Given as goal

-- the lines so far were passed
abbrev pub invariant-loop : goal.invariant-loop
invariant-loop g l = record {
  stands : (left r w : Option (List ℕ)) → Stands l.fn.form l.initial.sides.first l.initial.sides.second l.initial.sides.merging left (g.R.Source.left l.initial.first) r
      (g.S.Source.left l.initial.second) w (g.W.Sink.written l.initial.writer)
      → Stands l.fn.form l.sides.first l.sides.second l.sides.merging left (g.R.Source.left l.first) r (g.S.Source.left l.second) w (g.W.Sink.written l.writer);
  under_way : IsUnderWay l.fn.form l.sides.first l.sides.second l.sides.merging (g.R.Source.left l.first) (g.S.Source.left l.second) (g.W.Sink.written l.writer);
  first : Takes (g.R.Source.left l.initial.first) (g.R.Source.left l.first);
  second : Takes (g.S.Source.left l.initial.second) (g.S.Source.left l.second);
  reads : g.R.Source.failures l.first ≡ g.R.Source.failures l.initial.first;
  more : g.S.Source.failures l.second ≡ g.S.Source.failures l.initial.second;
  writes : g.W.Sink.failures l.writer ≡ g.W.Sink.failures l.initial.writer;
}

abbrev pub decreases-loop : goal.decreases-loop
decreases-loop g l = 2 ^ 63 - passed_lines l.sides.merging
