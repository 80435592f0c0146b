use Rattle.std.proofs.Common.{sym, ◌∙◌}
use Rattle.report_diff.specs.Differences.{fits}
use Rattle.report_diff.proofs.Slices.{some_fails}
use Rattle.report_diff.proofs.known.Known.all_fit.Goals as goal

pub returns-then-not-fits : goal.returns-then-not-fits
returns-then-not-fits c = λ facts known. sym (some_fails (fits facts) c.args.others.now c.loop-fact.fact-index c.loop-fact-test.true
    (sym (c.fits.ensures facts known) ∙ c.if-not-fits.true))
