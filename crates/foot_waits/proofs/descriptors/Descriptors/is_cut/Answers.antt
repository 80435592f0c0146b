use Rattle.std.proofs.Common.{◌∙◌}
use Rattle.foot_waits.proofs.Grouping.{cut_by}
use Rattle.foot_waits.proofs.descriptors.Descriptors.is_cut.Goals as goal

pub returns-then-latest_with-last : goal.returns-then-latest_with-last
returns-then-latest_with-last c = λ yes.
    let places = c.group.inside.places.items in
    let more = rw c.latest_with.ensures at c.if-latest_with-last.true in
    let same = c.deref-other-items.ensures.value ∙ c.self.view_is in
    let item = rw c.deref.ensures.value at c.in-Some.ensures.item in
    rw (← c.group.view_is) (cut_by c.args.own.now c.group.inside.uses c.args.self.now c.loop-other.other-index c.in-Some.last.now c.other-item.result places
    (rw (← same) c.loop-other-test.true) (rw (← same) c.other-item.is) more item.1)
