use Rattle.std.proofs.Common.{sym, ◌∙◌}
use Rattle.std.specs.Str.{bytes_eq}
use Rattle.report_diff.proofs.Slices.{some_passes}
use Rattle.report_diff.proofs.facts.is_among.Goals as goal

pub returns-then-eq : goal.returns-then-eq
returns-then-eq c = sym (some_passes (bytes_eq c.args.fact.now) c.args.facts.now c.loop-other.other-index c.loop-other-test.true
    (sym c.eq.ensures ∙ c.if-eq.true))
