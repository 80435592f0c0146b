use Rattle.std.proofs.Common.{length}
use Rattle.trace_records.proofs.Counted.{Counted}
use Rattle.trace_records.proofs.counting.tally_of.Given as goal

-- what follows the records so far follows all of them, and they are counted
abbrev pub invariant-loop-front : goal.invariant-loop-front
invariant-loop-front l = Counted l.start l.front l.source.place l.source.rest.now l.fn.source.place l.fn.source.rest.now

abbrev pub decreases-loop-front : goal.decreases-loop-front
decreases-loop-front l = length l.source.rest.now
