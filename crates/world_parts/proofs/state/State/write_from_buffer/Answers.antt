use Rattle.std.proofs.Common.{[], length, unwrap_or, arith, ap, ◌∙◌}
use Rattle.ring_tables.specs.Contents.{bytes_at}
use Rattle.world_parts.specs.World.{buffer}
use Rattle.world_parts.proofs.Placing.{length-range_of-most}
use Rattle.world_parts.proofs.state.State.write_from_buffer.Goals as goal

pub write-requires : goal.write-requires
write-requires c =
    let whole = unwrap_or (buffer c.args.self.now c.args.ring c.args.index) [] in
    omega (arith, ap length (c.deref.ensures.value ∙ c.in_ok-bytes.ensures), length-range_of-most whole c.args.low c.args.high, c.requires.fits)

pub write_part-requires : goal.write_part-requires
write_part-requires c =
    let whole = bytes_at c.self.inside.buffers c.args.ring c.args.index in
    omega (arith, ap length c.in_ok-part.ensures, length-range_of-most whole c.args.low c.args.high, c.requires.fits)
