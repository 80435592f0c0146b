use Rattle.std.proofs.Common.{◌≤◌, ◌-◌, []}
use Rattle.std.specs.Prelude.{unwrap_or}
use Rattle.extent_bytes.specs.Bytes.{range_of}
use Rattle.sha2.specs.Hashers.{Holds256}
use Rattle.world_parts.specs.World.{bytes}
use Rattle.replay_report.proofs.tree_sums.range_sum.Given as goal

abbrev pub invariant-loop-done : goal.invariant-loop-done
invariant-loop-done l = record {
  from : l.low ≤ l.done;
  within : l.done ≤ l.high;
  holds : Holds256 l.hasher (range_of (unwrap_or (bytes l.world l.node) []) l.low l.done);
}

abbrev pub decreases-loop-done : goal.decreases-loop-done
decreases-loop-done l = l.high - l.done
