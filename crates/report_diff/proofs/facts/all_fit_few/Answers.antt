use Rattle.std.proofs.Common.{sym, ◌∙◌}
use Rattle.report_diff.specs.Differences.{fits}
use Rattle.report_diff.specs.Lines.{texts}
use Rattle.report_diff.proofs.Slices.{some_fails}
use Rattle.report_diff.proofs.facts.all_fit_few.Goals as goal

pub returns-then-not-fits : goal.returns-then-not-fits
returns-then-not-fits c = sym (some_fails (fits (texts c.args.others.now)) c.args.facts.now c.loop-fact.fact-index c.loop-fact-test.true
    (sym c.fits.ensures ∙ c.if-not-fits.true))
