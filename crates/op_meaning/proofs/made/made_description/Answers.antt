use Rattle.std.proofs.Common.{length, ap, arith}
use Rattle.op_meaning.proofs.made.made_description.Goals as goal

pub overflow_cast-result : goal.overflow_cast-result
overflow_cast-result c = omega (arith, c.requires.trace.sizes.descriptions, ap length c.as_slice.ensures)

pub overflow_add-result : goal.overflow_add-result
overflow_add-result c = omega (arith, c.requires.trace.sizes.descriptions, c.requires.trace.sizes.places, ap length c.as_slice.ensures)
