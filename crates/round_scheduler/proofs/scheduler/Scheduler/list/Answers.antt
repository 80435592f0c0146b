use Rattle.std.proofs.Common.{◌∙◌, Some, take, get_or, ap, refl, sym, rules}
use Rattle.std.proofs.lemmas.List.{take_all, take_more}
use Rattle.std.proofs.lemmas.Option.{slice_get-get_or}
use Rattle.round_scheduler.proofs.Listing.{ListsSoFar, lists_all, lists_more}
use Rattle.round_scheduler.proofs.scheduler.Scheduler.list.Goals as goal

pub loop-one-preserved : goal.loop-one-preserved
loop-one-preserved c =
    let mid = c.loop-one.self in
    let on = c.args.on.now in
    let i = c.loop-one.one-index in
    let one = get_or on i 0 in
    let e = c.in-Some.ensures in
    let lt = e.item.3.0 in
    rw (take_more on i 0 (search rules)) (lists_more mid _ c.args.place one c.in-Some.listed.now c.push.new.self (slice_get-get_or mid.resting.items one c.in-Some.listed.now lt ∙ ap Some (sym e.value)) lt
    c.in_ok-push.ensures.items refl c.args.self.now (take i on) c.loop-one.invariant refl)

pub returns : goal.returns
returns c =
    let on = c.args.on.now in
    let so : ListsSoFar c.args.place on c.args.self.now c.loop-one.self = rw (take_all c.loop-one.one-index on c.loop-one-test.false) at c.loop-one.invariant in
    lists_all c.args.place on c.args.self.now c.loop-one.self so _ refl refl
