use Rattle.trace_format.proofs.Adds.{adds_at}
use Rattle.trace_records.specs.Spelling.{descriptor_bytes}
use Rattle.trace_records.proofs.writing.put_descriptors.Goals as goal

pub loop-descriptor-preserved : goal.loop-descriptor-preserved
loop-descriptor-preserved c =
    adds_at _ _ _ descriptor_bytes _ _ (record { number = 0; description = 0 }) c.loop-descriptor-test.true c.loop-descriptor.invariant c.in_ok-put_descriptor.ensures
