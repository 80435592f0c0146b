use Rattle.std.proofs.Common.{◌≤◌, ◌-◌}
use Rattle.use_line.specs.Known.{AddsTold}
use Rattle.use_line.proofs.line.Line.tell.Given as goal

-- those of the numbers so far are told
abbrev pub invariant-loop-number : goal.invariant-loop-number
invariant-loop-number l = record {
  from : l.span.low ≤ l.number;
  to : l.number ≤ l.span.high;
  told : AddsTold l.self l.own l.span.written l.span.low l.number l.fn.told.items l.told.items;
}

abbrev pub decreases-loop-number : goal.decreases-loop-number
decreases-loop-number l = l.span.high - l.number
