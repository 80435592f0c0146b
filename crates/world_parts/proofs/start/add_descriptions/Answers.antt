use Rattle.std.proofs.Common.{arith, false}
use Rattle.trace_format.specs.declared.trace.Access.TheVariants.{Read}
use Rattle.world_parts.specs.World.{Description}
use Rattle.world_parts.proofs.Starts.{descriptions-more}
use Rattle.world_parts.proofs.start.add_descriptions.Goals as goal

pub loop-number-preserved : goal.loop-number-preserved
loop-number-preserved c =
    let d : Description = record { node = 0; access = Read; append = false; position = 0 } in
    let more = descriptions-more c.args.descriptions.now c.loop-number.number d c.loop-number-test.true in
    grind arith
