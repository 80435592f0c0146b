use Rattle.report_diff.specs.Differences.{of_second}
use Rattle.report_diff.proofs.AddLemmas.{adds_line}
use Rattle.report_diff.proofs.comparing.add_seconds.Goals as goal

pub loop-line-preserved : goal.loop-line-preserved
loop-line-preserved c = λ text index. adds_line (of_second c.args.first.now.end text) c.args.told.now c.loop-line.told c.add_second.new.self c.args.lines.now
    c.loop-line.line-index c.loop-line-test.true (c.loop-line.invariant text index) (c.in_ok-add_second.ensures text index)
