use Rattle.std.proofs.Common.{◌≡◌}
use Rattle.replay_core.specs.Progressing.{Stands}
use Rattle.replay_core.specs.Noted.{AreNoted}
use Rattle.replay_core.proofs.round_log.run_noting.Given as goal

abbrev pub invariant-loop-round : goal.invariant-loop-round
invariant-loop-round g l = record {
  stands : Stands l.trace l.progress;
  window : l.progress.window ≡ l.fn.progress.window;
  round : l.progress.round ≡ l._round;
  noted : AreNoted l.trace l.progress.window l.progress.round l.waits.items;
}
