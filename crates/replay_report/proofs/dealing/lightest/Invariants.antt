use Rattle.std.specs.Prelude.{◌<◌, length}
use Rattle.replay_report.proofs.dealing.lightest.Given as goal

abbrev pub invariant-loop-number : goal.invariant-loop-number
invariant-loop-number l = l.least < length l.shares
