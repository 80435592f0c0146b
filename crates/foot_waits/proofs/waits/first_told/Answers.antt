use Rattle.std.proofs.Common.{◌≡◌, ℕ, ◌-◌, ◌+◌, arith, map, subst, length}
use Rattle.std.specs.BTreeMap.{get}
use Rattle.std.specs.Ordering.{nat_cmp}
use Rattle.foot_waits.specs.Told.{IsFirstFrom, Past}
use Rattle.world_parts.specs.Uses.{use_meant}
use Rattle.foot_waits.proofs.Told.{first_more, first_of_all}
use Rattle.foot_waits.proofs.waits.first_told.Goals as goal

pub loop-index-preserved : goal.loop-index-preserved
loop-index-preserved c =
    let past : Past = (c.args.line.now, c.args.descriptors.now) in
    let uses = map use_meant c.args.uses.now in
    let spans = c.args.spans.now in
    let n : ℕ = c.loop-index.index in
    let back : n ≡ (n - 1) + 1 = omega (arith, c.loop-index-test.true) in
    record {
      within = omega (arith, c.loop-index.invariant.within);
      first = λ j. rw (c.in_ok-add_told.ensures j, c.as_slice.ensures.value)
          (first_more past uses spans (n - 1) (length spans) j (get nat_cmp c.loop-index.found j) c.tell_by.new.told.items (omega (arith, c.loop-index.invariant.within, c.loop-index-test.true))
          (subst (λ m. IsFirstFrom past uses spans m (length spans) j (get nat_cmp c.loop-index.found j)) back (c.loop-index.invariant.first j)) (c.in_ok-tell_by.ensures j));
    }

pub returns : goal.returns
returns c = λ j.
    let past : Past = (c.args.line.now, c.args.descriptors.now) in
    let uses = map use_meant c.args.uses.now in
    let spans = c.args.spans.now in
    let none : c.loop-index.index ≡ 0 = omega (arith, c.loop-index-test.false) in
    first_of_all past uses spans (length spans) j (get nat_cmp c.loop-index.found j)
    (subst (λ m. IsFirstFrom past uses spans m (length spans) j (get nat_cmp c.loop-index.found j)) none (c.loop-index.invariant.first j))
