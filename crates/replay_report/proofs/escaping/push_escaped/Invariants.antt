use Rattle.std.proofs.Common.{◌≡◌, ◌≤◌, ◌-◌, ◌++◌, length, take}
use Rattle.replay_report.specs.Report.{escaped}
use Rattle.replay_report.proofs.escaping.push_escaped.Given as goal

abbrev pub invariant-loop-done : goal.invariant-loop-done
invariant-loop-done l = record {
  within : l.done ≤ length l.path;
  made : l.text.items ≡ l.fn.text.items ++ escaped (take l.done l.path);
}

abbrev pub decreases-loop-done : goal.decreases-loop-done
decreases-loop-done l = length l.path - l.done
