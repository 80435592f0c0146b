use Rattle.std.proofs.Common.{take}
use Rattle.round_scheduler.specs.Scheduling.{Flags}
use Rattle.round_scheduler.proofs.scheduler.flag.Given as goal

-- the places so far are flagged
abbrev pub invariant-loop-place : goal.invariant-loop-place
invariant-loop-place l = Flags (take l.place-index l.places) l.fn.again.items l.again.items
