use Rattle.trace_records.proofs.Whole.{one_trace}
use Rattle.trace_records.proofs.laws.spells_one_trace.Goals as goal

pub returns : goal.returns
returns c = one_trace
