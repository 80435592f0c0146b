use Rattle.trace_records.proofs.Whole.{one_fault}
use Rattle.trace_records.proofs.laws.has_one_fault.Goals as goal

pub returns : goal.returns
returns c = one_fault
