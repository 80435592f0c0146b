use Rattle.trace_stream.proofs.Grows.{takes_on}
use Rattle.trace_stream.proofs.parts.record_on.Goals as goal

pub returns-in_err-record-clause-taken : goal.returns-in_err-record-clause-taken
returns-in_err-record-clause-taken g c =
    let grows = c.loop-record.invariant.grows in takes_on _ _ _ (grows.more, grows.taken) c.in_err-record.ensures.taken
