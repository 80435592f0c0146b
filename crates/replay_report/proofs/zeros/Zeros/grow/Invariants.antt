use Rattle.std.proofs.Common.{◌≤◌, ◌-◌, replicate}
use Rattle.sha2.specs.Hashers.{Holds256}
use Rattle.replay_report.proofs.zeros.Zeros.grow.Given as goal

abbrev pub invariant-loop-self : goal.invariant-loop-self
invariant-loop-self l = record {
  within : l.self-inside.count ≤ l.count;
  holds : Holds256 l.self-inside.hasher (replicate l.self-inside.count 0);
}

abbrev pub decreases-loop-self : goal.decreases-loop-self
decreases-loop-self l = l.count - l.self-inside.count
