use Rattle.std.specs.Prelude.{◌<◌, ◌≤◌, length, max}
use Rattle.replay_report.proofs.dealing.dealt.Given as goal

abbrev pub invariant-loop-holder : goal.invariant-loop-holder
invariant-loop-holder l = record {
  some : 0 < length l.shares.items;
  few : length l.shares.items ≤ max 1 l.workers;
}
