use Rattle.std.proofs.Common.{false}
use Rattle.trace_format.specs.declared.trace.Description.{Description}
use Rattle.trace_format.specs.declared.trace.Access.TheVariants.{Read}
use Rattle.trace_format.specs.Spelling.{description_bytes}
use Rattle.trace_format.proofs.Adds.{adds_at}
use Rattle.trace_records.proofs.writing.put_descriptions.Goals as goal

pub loop-description-preserved : goal.loop-description-preserved
loop-description-preserved c =
    let other : Description = record { node = 0; access = Read; append = false; position = 0 } in
    adds_at _ _ _ description_bytes _ _ other c.loop-description-test.true c.loop-description.invariant c.in_ok-put_description.ensures
