use Rattle.std.proofs.Common.{◌≡◌, drop}
use Rattle.finite_maps.specs.Table.{empty}
use Rattle.replay_core.specs.Progressing.{IsSameRound}
use Rattle.replay_core.proofs.Stepping.{StepsHere}
use Rattle.replay_core.proofs.progress.Progress.run_here.Given as goal

abbrev pub invariant-loop-place : goal.invariant-loop-place
invariant-loop-place g l = record {
  steps : StepsHere l.trace l.fn.self.window l.fn.self.round (drop l.place-index l.ran) l.self.spare.values l.self.replies l.self.rounds.items l.self.done.items;
  home : l.self.world.out ≡ empty;
  rest : IsSameRound l.fn.self l.self;
}
