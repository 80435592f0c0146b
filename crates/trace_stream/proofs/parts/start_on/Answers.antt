use Rattle.trace_stream.proofs.Grows.{takes_on}
use Rattle.trace_stream.proofs.parts.start_on.Goals as goal

pub returns-in_err-start-clause-taken : goal.returns-in_err-start-clause-taken
returns-in_err-start-clause-taken g c =
    let grows = c.loop-start.invariant.grows in takes_on _ _ _ (grows.more, grows.taken) c.in_err-start.ensures.taken
