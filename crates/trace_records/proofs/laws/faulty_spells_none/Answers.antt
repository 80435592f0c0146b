use Rattle.trace_records.proofs.Whole.{no_trace}
use Rattle.trace_records.proofs.laws.faulty_spells_none.Goals as goal

pub returns : goal.returns
returns c = no_trace
