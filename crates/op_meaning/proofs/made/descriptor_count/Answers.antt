use Rattle.std.proofs.Common.{length, ap, arith}
use Rattle.op_meaning.proofs.made.descriptor_count.Goals as goal

pub overflow_cast-result : goal.overflow_cast-result
overflow_cast-result c = omega (arith, c.requires.sizes.descriptors, ap length c.as_slice.ensures)
