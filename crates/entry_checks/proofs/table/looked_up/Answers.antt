use Rattle.std.proofs.Common.{ap}
use Rattle.entry_checks.specs.Check.{row_of}
use Rattle.entry_checks.proofs.Chosen.{from_row}
use Rattle.entry_checks.proofs.table.looked_up.Goals as goal

pub returns-in-0 : goal.returns-in-0
returns-in-0 c = from_row _ _ _ _ _ _ c.sqe.ensures c.side-side.ensures (ap (row_of c.args.version) c.in-0.is) c.nop.ensures

pub returns-in-1 : goal.returns-in-1
returns-in-1 c = from_row _ _ _ _ _ _ c.sqe.ensures c.side-side.ensures (ap (row_of c.args.version) c.in-1.is) c.readv.ensures

pub returns-in-2 : goal.returns-in-2
returns-in-2 c = from_row _ _ _ _ _ _ c.sqe.ensures c.side_slice.ensures (ap (row_of c.args.version) c.in-2.is) c.writev.ensures

pub returns-in-3 : goal.returns-in-3
returns-in-3 c = from_row _ _ _ _ _ _ c.sqe.ensures c.side-side.ensures (ap (row_of c.args.version) c.in-3.is) c.fsync.ensures

pub returns-in-4 : goal.returns-in-4
returns-in-4 c = from_row _ _ _ _ _ _ c.sqe.ensures c.side-side.ensures (ap (row_of c.args.version) c.in-4.is) c.read_fixed.ensures

pub returns-in-5 : goal.returns-in-5
returns-in-5 c = from_row _ _ _ _ _ _ c.sqe.ensures c.side-side.ensures (ap (row_of c.args.version) c.in-5.is) c.write_fixed.ensures

pub returns-in-17 : goal.returns-in-17
returns-in-17 c = from_row _ _ _ _ _ _ c.sqe.ensures c.side-side.ensures (ap (row_of c.args.version) c.in-17.is) c.fallocate.ensures

pub returns-in-18 : goal.returns-in-18
returns-in-18 c = from_row _ _ _ _ _ _ c.sqe.ensures c.side-side.ensures (ap (row_of c.args.version) c.in-18.is) c.openat.ensures

pub returns-in-19 : goal.returns-in-19
returns-in-19 c = from_row _ _ _ _ _ _ c.sqe.ensures c.side-side.ensures (ap (row_of c.args.version) c.in-19.is) c.close.ensures

pub returns-in-22 : goal.returns-in-22
returns-in-22 c = from_row _ _ _ _ _ _ c.sqe.ensures c.side-side.ensures (ap (row_of c.args.version) c.in-22.is) c.read.ensures

pub returns-in-23 : goal.returns-in-23
returns-in-23 c = from_row _ _ _ _ _ _ c.sqe.ensures c.side_slice-in-23.ensures (ap (row_of c.args.version) c.in-23.is) c.write.ensures

pub returns-in-35 : goal.returns-in-35
returns-in-35 c = from_row _ _ _ _ _ _ c.sqe.ensures c.side-side.ensures (ap (row_of c.args.version) c.in-35.is) c.renameat.ensures

pub returns-in-36 : goal.returns-in-36
returns-in-36 c = from_row _ _ _ _ _ _ c.sqe.ensures c.side-side.ensures (ap (row_of c.args.version) c.in-36.is) c.unlinkat.ensures

pub returns-in-37 : goal.returns-in-37
returns-in-37 c = from_row _ _ _ _ _ _ c.sqe.ensures c.side-side.ensures (ap (row_of c.args.version) c.in-37.is) c.mkdirat.ensures

pub returns-in-39 : goal.returns-in-39
returns-in-39 c = from_row _ _ _ _ _ _ c.sqe.ensures c.side-side.ensures (ap (row_of c.args.version) c.in-39.is) c.linkat.ensures

pub returns-in-55 : goal.returns-in-55
returns-in-55 c = from_row _ _ _ _ _ _ c.sqe.ensures c.side-side.ensures (ap (row_of c.args.version) c.in-55.is) c.ftruncate.ensures
