use Rattle.report_diff.specs.Differences.{tally_line}
use Rattle.report_diff.proofs.counting.push_counts.Goals as goal

pub returns : goal.returns
unfolding tally_line
returns c = rw (← c.section_name-name.ensures) c.writeln.ensures.bytes
