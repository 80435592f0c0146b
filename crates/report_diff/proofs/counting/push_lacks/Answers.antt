use Rattle.report_diff.specs.Differences.{lacks_line}
use Rattle.report_diff.proofs.counting.push_lacks.Goals as goal

pub returns : goal.returns
unfolding lacks_line
returns c = c.writeln.ensures.bytes
