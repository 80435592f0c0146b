use Rattle.std.proofs.Common.{◌≡◌, take, length}
use Rattle.foot_print.specs.Parts.{places}
use Rattle.replay_core.specs.Jobs.{AreOf}
use Rattle.wave_pick.specs.Rounds.{state_after, wave_after}
use Rattle.replay_core.specs.Progressing.{parts_of, AreOut}
use Rattle.replay_core.proofs.progress.Progress.deal.Given as goal

abbrev pub invariant-loop-chosen : goal.invariant-loop-chosen
invariant-loop-chosen l = record {
  next : (goal.iterator-loop-chosen).can_next l.chosen-iterator;
  finite : (goal.iterator-loop-chosen).is_finite l.chosen-iterator;
  trace : AreOf l.trace l.jobs.items;
  wave : places (parts_of l.jobs.items) ≡ take (length l.yielded) (wave_after l.trace l.fn.self.window l.fn.self.round);
  out : AreOut l.trace (state_after l.trace l.fn.self.window l.fn.self.round).world (state_after l.trace l.fn.self.window l.fn.self.round).world (parts_of l.jobs.items) l.self.world;
  rest : l.self ≡ record l.fn.self { world = l.self.world };
}
