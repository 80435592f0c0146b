use Rattle.std.proofs.Common.{sym}
use Rattle.std.specs.Str.{bytes_eq}
use Rattle.report_diff.specs.Lines.{fact_name}
use Rattle.report_diff.proofs.Slices.{some_passes}
use Rattle.report_diff.proofs.facts.has_name.Goals as goal

pub returns-then-eq : goal.returns-then-eq
returns-then-eq c =
    sym (some_passes (λ fact. bytes_eq c.args.name.now (fact_name fact)) c.args.facts.now c.loop-fact.fact-index c.loop-fact-test.true
    (rw (← c.fact_name.ensures, ← c.eq.ensures) c.if-eq.true))
