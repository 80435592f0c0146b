use Rattle.std.proofs.Common.{◌<◌, ◌≤◌, take}
use Rattle.use_line.proofs.Telling.{AreOutside}
use Rattle.use_line.proofs.ranges.last_edge.Given as goal

-- none of the ranges so far begins or ends past the edge
abbrev pub invariant-loop-span : goal.invariant-loop-span
invariant-loop-span l = record {
  from : l.low ≤ l.edge;
  to : l.edge < l.high;
  outside : AreOutside l.edge l.high (take l.span-index l.spans);
}
