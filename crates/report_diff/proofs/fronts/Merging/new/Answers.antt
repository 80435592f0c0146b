use Rattle.std.proofs.Common.{[], ◌∷◌, ◌++◌, refl, sym, ap, ◌∙◌, arith}
use Rattle.report_diff.specs.Merging.{heading}
use Rattle.report_diff.specs.Repeats.{otherwise}
use Rattle.report_diff.proofs.SaysLemmas.{further_none}
use Rattle.report_diff.proofs.MergeLemmas.{heading_says}
use Rattle.report_diff.proofs.fronts.Merging.new.Goals as goal

pub returns-clause-merges : goal.returns-clause-merges
returns-clause-merges c = record {
  kept = [];
  is_first = c.heading.ensures.passed;
  is_second = c.heading-2.ensures.passed;
  front_first = λ more. refl;
  front_second = λ more. refl;
  kept_text = c.in_ok-push.ensures.items ∙ ap (λ text. text ++ 10 ∷ []) (c.in_ok-kept.ensures.items ∙ c.as_bytes.ensures.value);
  kept_whole = refl;
  kept_says = heading_says;
  kept_below = refl;
  kept_passed = refl;
  from = omega (arith, c.heading.ensures.next);
  ahead = omega (arith, c.heading-2.ensures.next);
  text = sym c.nothing.ensures.text;
  counts = c.nothing.ensures.counts;
  reached = refl;
  below_first = refl;
  below_second = refl;
  finds = λ ends covers more back on on2. refl;
  says_first = λ more on. sym (further_none (otherwise (heading ∷ more)));
  says_second = λ back on. sym (further_none (otherwise (heading ∷ back)));
}
