use Rattle.std.proofs.Common.{length}
use Rattle.trace_records.proofs.Going.{Going}
use Rattle.trace_records.proofs.reading.records_of.Given as goal

-- what follows the records so far follows all of them
abbrev pub invariant-loop-front : goal.invariant-loop-front
invariant-loop-front l = Going l.start l.front l.source.place l.source.rest.now l.records.items l.fn.source.place l.fn.source.rest.now

abbrev pub decreases-loop-front : goal.decreases-loop-front
decreases-loop-front l = length l.source.rest.now
