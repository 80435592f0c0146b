use Rattle.std.proofs.Common.{◌≤◌, ◌-◌, [], take}
use Rattle.std.specs.Prelude.{unwrap_or}
use Rattle.sha2.specs.Hashers.{Holds256}
use Rattle.replay_report.specs.Sums.{held}
use Rattle.replay_report.proofs.sums.sum_from.Given as goal

abbrev pub invariant-loop-done : goal.invariant-loop-done
invariant-loop-done l = record {
  within : l.done ≤ l.len;
  holds : Holds256 l.hasher (take l.done (unwrap_or (held l.world l.holder) []));
}

abbrev pub decreases-loop-done : goal.decreases-loop-done
decreases-loop-done l = l.len - l.done
