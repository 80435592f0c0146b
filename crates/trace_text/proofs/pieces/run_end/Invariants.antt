use Rattle.std.proofs.Common.{◌≤◌, ◌<◌, ◌-◌, length}
use Rattle.trace_text.proofs.Runs.{Alike}
use Rattle.trace_text.proofs.pieces.run_end.Given as goal

abbrev pub invariant-loop-end : goal.invariant-loop-end
invariant-loop-end l = record {
  behind : l.from < l.end;
  within : l.end ≤ length l.bytes;
  same : Alike l.bytes l.from l.end;
}

abbrev pub decreases-loop-end : goal.decreases-loop-end
decreases-loop-end l = length l.bytes - l.end
