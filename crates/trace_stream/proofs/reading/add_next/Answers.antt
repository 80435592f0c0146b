use Rattle.std.proofs.Common.{refl}
use Rattle.trace_stream.proofs.reading.add_next.Goals as goal

pub returns-in_ok-push-in-Some-clause-ok : goal.returns-in_ok-push-in-Some-clause-ok
returns-in_ok-push-in-Some-clause-ok g c = (c.in-Some.record, c.in_ok-push-in-Some.ensures.items, rw c.in-Some.is at c.in_ok-record.ensures.ok)

pub returns-in-None-clause-ok : goal.returns-in-None-clause-ok
returns-in-None-clause-ok g c = (refl, rw c.in-None.is at c.in_ok-record.ensures.ok)
