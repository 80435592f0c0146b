-- A page that is not stored is zeros, which lie there already.
use Rattle.std.proofs.Common.{◌≡◌, ℕ, ◌+◌, ◌<◌, ◌≤◌, None, arith, ◌∙◌}
use Rattle.extent_bytes.specs.Pages.{page_of}
use Rattle.extent_bytes.proofs.Outcomes.{none_is}
use Rattle.extent_bytes.proofs.PageFacts.{byte_at-empty}
use Rattle.extent_bytes.proofs.Moves.{moved_before, moved_step, overlaid_stored}
use Rattle.extent_bytes.proofs.moving.moved.Goals as goal

pub loop-number-init : goal.loop-number-init
loop-number-init c = record {
  first = omega arith;
  within = omega (arith, c.div_ceil-last.ensures, c.requires.forward);
  done = λ i h l. absurd (omega arith);
  blank = λ i h. byte_at-empty c.new-moved.result c.new-moved.ensures (c.args.target + i);
}

pub loop-number-preserved : goal.loop-number-preserved
loop-number-preserved c =
    let m = c.args.pages.now in
    let k = c.in-Some.number in
    let at = c.loop-number.at in
    let a = c.loop-number.moved in
    let b = c.move_page.new.moved in
    let e = c.in-Some.ensures in
    let v = c.loop-number.invariant in
    let none : (j : ℕ) → at ≤ j → j < k → page_of m j ≡ None = λ j h l. none_is (page_of m j) (λ s. let n : k ≤ j = e.least j h (omega (arith, e.within.1)) s in absurd (omega arith)) in
    let o = overlaid_stored m a b k c.args.start c.args.end c.args.target c.in-Some.page.now e.page c.requires.forward c.in_ok-move_page.ensures in record {
      first = omega (arith, v.first, e.within.0);
      within = omega (arith, e.within.1);
      done = moved_step m a b c.args.start c.args.end c.args.target k (moved_before m a c.args.start c.args.end c.args.target at k none v.done v.blank) o;
      blank = λ i h. o.above (c.args.target + i) (omega (arith, c.requires.forward)) ∙ v.blank i (omega (arith, e.within.0));
    }

pub returns : goal.returns
returns c = λ i h.
    moved_before c.args.pages.now c.loop-number.moved c.args.start c.args.end c.args.target c.loop-number.at c.div_ceil-last.result c.in_default.ensures.none
    c.loop-number.invariant.done c.loop-number.invariant.blank i h (omega (arith, c.div_ceil-last.ensures))
