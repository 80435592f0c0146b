use Rattle.std.proofs.Common.{arith}
use Rattle.std.proofs.lemmas.Option.{get_or_from_slice_get}
use Rattle.ring_tables.proofs.Cells.{held-known}
use Rattle.ring_tables.proofs.slots.known.Goals as goal

pub returns : goal.returns
returns c = λ t h. held-known t c.args.cells.now c.args.ring c.args.slot c.in_ok-cell.field-0 c.in_ok-get.field-0.now h (grind arith) (grind (arith, get_or_from_slice_get))
