use Rattle.std.proofs.Common.{sym, ◌∙◌}
use Rattle.report_diff.specs.Differences.{is_whole_data}
use Rattle.report_diff.proofs.Slices.{some_passes}
use Rattle.report_diff.proofs.facts.show_data.Goals as goal

pub returns-then-is_whole_data : goal.returns-then-is_whole_data
returns-then-is_whole_data c = sym (some_passes is_whole_data c.args.facts.now c.loop-fact.fact-index c.loop-fact-test.true
    (sym c.is_whole_data.ensures ∙ c.if-is_whole_data.true))
