use Rattle.std.proofs.Common.{◌≡◌, List, ℕ, arith, subst}
use Rattle.std.specs.Prelude.{All}
use Rattle.extent_bytes.proofs.Compares.{agree_more, blank_agrees, zeros_before}
use Rattle.extent_bytes.proofs.Outcomes.{some_not_none}
use Rattle.extent_bytes.proofs.comparing.zeros_ahead.Goals as goal

pub loop-number-preserved : goal.loop-number-preserved
loop-number-preserved c =
    let e = c.in-Some.ensures in
    let v = c.loop-number.invariant in
    let blank : All (λ b. b ≡ 0) c.in-Some.page.now = subst (λ (bs : List ℕ). All (λ b. b ≡ 0) bs) c.as_slice.ensures.bytes (c.is_blank.ensures.0 c.if-not-is_blank.false) in record {
      first = omega (arith, v.first, e.within.0);
      within = omega (arith, e.within.1);
      zeros = agree_more c.args.pages.now (λ _. 0) c.args.start c.args.end c.args.start c.loop-number.at c.div_ceil-last.result c.in-Some.number c.in-Some.page.now
          e.page e.within.1 e.least (blank_agrees c.in-Some.page.now c.in-Some.number c.args.start c.args.end c.args.start c.as_slice.ensures.len blank) v.zeros;
    }

pub returns-then-not-is_blank-clause-zeros : goal.returns-then-not-is_blank-clause-zeros
returns-then-not-is_blank-clause-zeros c = λ i h.
    let e = c.in-Some.ensures in
    zeros_before c.args.pages.now c.args.start c.args.end c.loop-number.at c.in-Some.number (λ j a b some. e.least j a (omega (arith, e.within.1)) some) c.loop-number.invariant.zeros i
    (omega (arith, e.within.1, c.max.ensures, c.div_ceil-last.ensures)) (omega (arith, c.max.ensures))

pub returns-clause-zeros : goal.returns-clause-zeros
returns-clause-zeros c = λ i h.
    zeros_before c.args.pages.now c.args.start c.args.end c.loop-number.at c.div_ceil-last.result (λ j a b some. some_not_none _ some (c.in_default.ensures.none j a b)) c.loop-number.invariant.zeros i
    (omega arith) (omega (arith, c.div_ceil-last.ensures))
