use Rattle.trace_records.proofs.OneSpelling.{one_spelling}
use Rattle.trace_records.proofs.laws.has_one_spelling.Goals as goal

pub returns : goal.returns
returns c = one_spelling
