use Rattle.std.proofs.Common.{ℕ, ◌<◌, [], All, take}
use Rattle.recording.specs.Steps.{places}
use Rattle.round_scheduler.specs.Scheduling.{AreFirst, HaveSeen, IsSameRound}
use Rattle.round_scheduler.proofs.scheduler.Scheduler.look_over.Given as goal

-- the places so far have been looked at, or passed over
abbrev pub invariant-loop-index : goal.invariant-loop-index
invariant-loop-index l = record {
  seen : (window : ℕ) → AreFirst l.trace window l.world.world l.fn.self.round l.first → HaveSeen l.trace window l.fn.self.round [] l.fn.self [] → HaveSeen l.trace window l.fn.self.round (take l.index l.first) l.self l.free.items;
  same : IsSameRound l.fn.self l.self;
  low : All (λ k. k < places l.trace) l.free.items;
}
