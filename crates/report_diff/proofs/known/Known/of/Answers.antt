use Rattle.std.proofs.Common.{get_or, refl}
use Rattle.report_diff.specs.Lines.{fact_name}
use Rattle.report_diff.proofs.Slices.{no_slice}
use Rattle.report_diff.proofs.Sets.{set_grown}
use Rattle.report_diff.proofs.known.Known.of.Goals as goal

pub loop-fact-preserved : goal.loop-fact-preserved
loop-fact-preserved c = record {
  facts = set_grown c.loop-fact.known.facts c.insert.new.self (get_or c.args.facts.now c.loop-fact.fact-index no_slice) c.in_ok-insert.ensures.updates (λ fact. fact) c.args.facts.now c.loop-fact.fact-index c.loop-fact-test.true refl c.loop-fact.invariant.facts;
  names = set_grown c.loop-fact.known.names c.insert-in-loop-fact.new.self c.fact_name.result c.in_ok-insert-2.ensures.updates fact_name c.args.facts.now c.loop-fact.fact-index c.loop-fact-test.true c.fact_name.ensures c.loop-fact.invariant.names;
}
