use Rattle.std.proofs.Common.{ap}
use Rattle.entry_checks.specs.Check.{row_of}
use Rattle.entry_checks.proofs.Chosen.{from_row}
use Rattle.entry_checks.proofs.table.checked.Goals as goal

pub returns-in-22 : goal.returns-in-22
returns-in-22 c = from_row _ _ _ _ _ _ c.sqe.ensures c.side.ensures (ap (row_of c.args.version) c.in-22.is) c.read.ensures

pub returns-in-23 : goal.returns-in-23
returns-in-23 c = from_row _ _ _ _ _ _ c.sqe.ensures c.side_slice.ensures (ap (row_of c.args.version) c.in-23.is) c.write.ensures
