use Rattle.report_diff.specs.Differences.{of_first}
use Rattle.report_diff.proofs.AddLemmas.{adds_line}
use Rattle.report_diff.proofs.comparing.add_firsts.Goals as goal

pub loop-line-preserved : goal.loop-line-preserved
loop-line-preserved c = λ text index. adds_line (of_first c.args.second.now.end text) c.args.told.now c.loop-line.told c.add_first.new.self c.args.lines.now
    c.loop-line.line-index c.loop-line-test.true (c.loop-line.invariant text index) (c.in_ok-add_first.ensures text index)
