use Rattle.std.proofs.Common.{◌≡◌, take}
use Rattle.replay_core.specs.Differences.{start_of}
use Rattle.replay_core.proofs.comparing.first_of.Given as goal

abbrev pub invariant-loop-number : goal.invariant-loop-number
invariant-loop-number l = record {
  reached : l.same ≡ start_of l.ends l.number;
  same : take l.same l.one ≡ take l.same l.other;
}
