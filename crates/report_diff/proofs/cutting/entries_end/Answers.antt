use Rattle.std.proofs.Common.{◌∙◌}
use Rattle.report_diff.proofs.CutLemmas.{end_more, end_none}
use Rattle.report_diff.proofs.cutting.entries_end.Goals as goal

pub loop-line-init : goal.loop-line-init
loop-line-init c = end_none c.args.next

pub loop-line-preserved : goal.loop-line-preserved
loop-line-preserved c = c.max-end.ensures ∙ end_more c.args.report.now c.loop-line.line-index c.args.next c.loop-line.end c.place_end.result
    c.loop-line-test.true c.loop-line.invariant c.place_end.ensures
