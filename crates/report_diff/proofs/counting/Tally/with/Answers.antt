use Rattle.report_diff.specs.declared.telling.Outcome.TheVariants.{Equal, Different, Unchecked, Given}
use Rattle.report_diff.proofs.CountLemmas.{count_more}
use Rattle.report_diff.proofs.counting.Tally.with.Goals as goal

pub returns : goal.returns
returns c = λ all tally. record {
  equal = rw (count_more all c.args.finding c.args.section Equal, ← tally.equal, ← c.is_of.ensures) c.in_ok-grown.ensures;
  different = rw (count_more all c.args.finding c.args.section Different, ← tally.different, ← c.is_of-2.ensures) c.in_ok-grown-2.ensures;
  unchecked = rw (count_more all c.args.finding c.args.section Unchecked, ← tally.unchecked, ← c.is_of-3.ensures) c.in_ok-grown-3.ensures;
  given = rw (count_more all c.args.finding c.args.section Given, ← tally.given, ← c.is_of-4.ensures) c.in_ok-grown-4.ensures;
}
