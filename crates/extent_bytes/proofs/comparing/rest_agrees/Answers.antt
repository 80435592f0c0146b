-- A page that is not stored has no byte to compare, and one that both have was compared.
use Rattle.std.proofs.Common.{arith, sym, ◌∙◌, refl, false}
use Rattle.extent_bytes.specs.Pages.{byte_at}
use Rattle.extent_bytes.proofs.Compares.{agree_at, agree_more}
use Rattle.extent_bytes.proofs.Outcomes.{not_both}
use Rattle.extent_bytes.proofs.comparing.rest_agrees.Goals as goal

pub loop-number-preserved : goal.loop-number-preserved
loop-number-preserved c =
    let e = c.in-Some.ensures in
    let v = c.loop-number.invariant in record {
      first = omega (arith, v.first, e.within.0);
      within = omega (arith, e.within.1);
      agree = agree_more c.args.other.now (byte_at c.args.pages.now) c.args.start c.args.end c.args.start c.loop-number.at c.div_ceil-last.result c.in-Some.number c.in-Some.page.now
          e.page e.within.1 e.least (c.page_agrees.ensures.0 c.if-not-page_agrees.false) v.agree;
    }

pub returns-then-not-page_agrees : goal.returns-then-not-page_agrees
returns-then-not-page_agrees c = (
  (λ e. not_both false e refl),
  (λ all. sym c.if-not-page_agrees.true
      ∙ c.page_agrees.ensures.1 (agree_at c.args.other.now (byte_at c.args.pages.now) c.args.start c.args.end c.args.start c.in-Some.number c.in-Some.page.now c.in-Some.ensures.page all)),
)
