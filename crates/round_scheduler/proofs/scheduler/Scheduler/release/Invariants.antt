use Rattle.std.proofs.Common.{take}
use Rattle.round_scheduler.specs.Scheduling.{Releases}
use Rattle.round_scheduler.proofs.scheduler.Scheduler.release.Given as goal

-- the places so far are released
abbrev pub invariant-loop-place : goal.invariant-loop-place
invariant-loop-place l = Releases (take l.place-index l.free) l.fn.self l.self l.chosen.items
