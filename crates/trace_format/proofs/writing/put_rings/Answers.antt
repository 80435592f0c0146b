use Rattle.trace_format.specs.Spelling.{ring_bytes}
use Rattle.trace_format.proofs.Adds.{adds_one}
use Rattle.trace_format.proofs.writing.put_rings.Goals as goal

pub loop-ring-preserved : goal.loop-ring-preserved
loop-ring-preserved c = adds_one _ _ _ ring_bytes _ _ _ c.loop-ring-test.true c.ring-item.is c.loop-ring.invariant c.in_ok-put_ring.ensures
