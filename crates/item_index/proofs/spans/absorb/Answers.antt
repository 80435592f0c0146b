use Rattle.std.proofs.Common.{leb, ◌∙◌, arith}
use Rattle.item_index.proofs.Pieces.{absorbed, fewer, last_chosen, clear_first, clear_last, apart_less, within_piece}
use Rattle.std.specs.Ordering.{nat_cmp}
use Rattle.std.specs.BTreeMap.{is_at}
use Rattle.item_index.proofs.spans.absorb.Goals as goal

pub loop-first-smaller : goal.loop-first-smaller
loop-first-smaller c =
    let l = last_chosen (λ x. leb x c.loop-first.end) _ _ _ _ c.loop-first.invariant.rest c.in-Some.ensures.1 in
    rw c.remove.ensures.entries (fewer _ _ _ l.found)

pub loop-first-preserved : goal.loop-first-preserved
loop-first-preserved c =
    let rs = c.loop-first.ends.entries in
    let a = c.loop-first.invariant.rest in
    let l = last_chosen (λ x. leb x c.loop-first.end) rs _ _ _ a c.in-Some.ensures.1 in
    record {
      range = let r = c.loop-first.invariant.range in omega (arith, c.min-start.ensures, c.max-end.ensures);
      same = λ p. rw (c.remove.ensures.entries, c.min-start.ensures, c.max-end.ensures)
          (absorbed c.loop-first.start c.loop-first.end c.in-Some.first c.in-Some.last rs a c.loop-first.invariant.range c.if-last-start.false l p
          ∙ c.loop-first.invariant.same p);
      rest = rw c.remove.ensures.entries (apart_less (is_at (nat_cmp c.in-Some.first)) rs a);
    }

pub returns-then-last-start-clause-apart : goal.returns-then-last-start-clause-apart
returns-then-last-start-clause-apart c = clear_last c.loop-first.start c.loop-first.end _ _ _ c.if-last-start.true
    (last_chosen (λ x. leb x c.loop-first.end) _ _ _ _ c.loop-first.invariant.rest c.in-Some.ensures.1)

pub returns-in_default-clause-apart : goal.returns-in_default-clause-apart
returns-in_default-clause-apart c = clear_first c.loop-first.start c.loop-first.end c.loop-first.ends.entries c.in_default.ensures

pub returns-then-end-last-clause-same : goal.returns-then-end-last-clause-same
returns-then-end-last-clause-same c = λ p.
    let l = last_chosen (λ x. leb x c.loop-first.end) _ _ _ _ c.loop-first.invariant.rest c.in-Some.ensures.1 in
    within_piece c.loop-first.start c.loop-first.end _ _ _ l.found c.if-first-start.true c.if-end-last.true p ∙ c.loop-first.invariant.same p
