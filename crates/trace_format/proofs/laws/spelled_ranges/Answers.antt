use Rattle.trace_format.proofs.Facts.{spelled_ranges}
use Rattle.trace_format.proofs.laws.spelled_ranges.Goals as goal

pub returns : goal.returns
returns c = spelled_ranges
