use Rattle.std.proofs.Common.{◌≡◌}
use Rattle.replay_core.specs.Progressing.{Stands}
use Rattle.replay_core.proofs.progress.Progress.run_all.Given as goal

abbrev pub invariant-loop-round : goal.invariant-loop-round
invariant-loop-round g l = record {
  stands : Stands l.trace l.self;
  window : l.self.window ≡ l.fn.self.window;
  round : l.self.round ≡ l._round;
}
