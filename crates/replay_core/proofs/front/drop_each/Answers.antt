use Rattle.std.proofs.Common.{ap, sym, subst, ◌∙◌, take, filter, get_or}
use Rattle.std.proofs.lemmas.List.{take_more}
use Rattle.std.specs.List.Sorted.{IsStrictlyIncreasing}
use Rattle.std.proofs.lemmas.List.Kept.{IsStrictlyIncreasing-filter}
use Rattle.replay_core.proofs.Dropping.{none_of_none, one_more_dropped, others_than, other_than}
use Rattle.replay_core.proofs.front.drop_each.Goals as goal

pub loop-place-init : goal.loop-place-init
loop-place-init c = sym (none_of_none c.args.front.now.items)

pub drop_place-requires : goal.drop_place-requires
drop_place-requires c = subst IsStrictlyIncreasing (sym c.loop-place.invariant) (IsStrictlyIncreasing-filter (others_than (take c.loop-place.place-index c.args.places.now)) c.args.front.now.items c.requires)

pub loop-place-preserved : goal.loop-place-preserved
loop-place-preserved c =
    let xs = c.args.front.now.items in
    let ps = c.args.places.now in
    let i = c.loop-place.place-index in
    c.drop_place.ensures ∙ ap (filter (other_than (get_or ps i 0))) c.loop-place.invariant ∙ one_more_dropped xs (take i ps) (get_or ps i 0)
    ∙ ap (λ ns. filter (others_than ns) xs) (sym (take_more ps i 0 c.loop-place-test.true))
