use Rattle.std.proofs.Common.{◌<◌, ◌++◌, ◌∷◌, ◌∙◌, [], Some, take, length, get_or, refl, ap, subst, sym, rules}
use Rattle.std.proofs.lemmas.List.{take_more}
use Rattle.std.proofs.Math.ListN.{set}
use Rattle.std.proofs.lemmas.Option.{slice_get-get_or}
use Rattle.round_scheduler.specs.Scheduling.{Releases}
use Rattle.round_scheduler.proofs.Listing.{one_taken, none_taken, release_step}
use Rattle.round_scheduler.proofs.scheduler.Scheduler.release.Goals.{in-Some+in_ok-push, in_default}
use Rattle.round_scheduler.proofs.scheduler.Scheduler.release.Goals as goal

pub loop-place-preserved : goal.loop-place-preserved
loop-place-preserved c =
    let ks = c.args.free.now in
    let i = c.loop-place.place-index in
    let k = get_or ks i 0 in
    let mid = c.loop-place.self in
    let more = take_more ks i 0 (search rules) in
    let low : k < length mid.reaches.items = search rules in
    let there = slice_get-get_or mid.reaches.items k c.index_mut.result.now low ∙ ap Some (sym (c.take.ensures.value ∙ c.index_mut.ensures.value)) in
    subst (λ xs. Releases xs c.args.self.now c.wake.new.self c.match-take.chosen.items) (sym more)
    (release_step (take i ks) k c.args.self.now mid _ c.wake.new.self c.loop-place.chosen.items c.loop-place.invariant c.wake.ensures (ap (set mid.reaches.items k) c.take.ensures.after) refl c.match-take.chosen.items (elim c.match-take.branch [
      | in-Some+in_ok-push w ↦ λ reach at. ap (λ v. v.items) w.chosen-is ∙ w.in_ok-push.ensures.items
          ∙ ap (λ g. c.loop-place.chosen.items ++ record { place = k; footprint = g } ∷ []) (one_taken reach w.in-Some.footprint (sym there ∙ at) w.in-Some.is)
      | in_default w ↦ λ reach at. none_taken reach (sym there ∙ at) w.in_default.is
    ]))
