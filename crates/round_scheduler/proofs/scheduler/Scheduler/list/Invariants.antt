use Rattle.std.proofs.Common.{take}
use Rattle.round_scheduler.proofs.Listing.{ListsSoFar}
use Rattle.round_scheduler.proofs.scheduler.Scheduler.list.Given as goal

-- the place is listed with those so far
abbrev pub invariant-loop-one : goal.invariant-loop-one
invariant-loop-one l = ListsSoFar l.place (take l.one-index l.on) l.fn.self l.self
