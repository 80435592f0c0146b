use Rattle.report_diff.proofs.Reports.{has_end_is}
use Rattle.report_diff.proofs.cutting.has_end.Goals as goal

pub returns : goal.returns
returns c = has_end_is c.args.text.now c.end_of.result c.end_of.ensures.place
