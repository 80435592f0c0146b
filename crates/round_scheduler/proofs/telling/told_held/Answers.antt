use Rattle.std.proofs.Common.{◌<◌, ◌++◌, map, take, filter, length, get_or, ap, sym, subst, ◌∙◌}
use Rattle.std.specs.Option.{option_map, option_to_list}
use Rattle.std.proofs.lemmas.List.{append-nil, take_more}
use Rattle.std.proofs.lemmas.Option.{slice_get-get_or}
use Rattle.chain_plan.proofs.Walk.{length-roles}
use Rattle.foot_print.specs.Footprint.{footprint}
use Rattle.round_scheduler.specs.Telling.{IsTold, has_number, held_among, held_meant}
use Rattle.round_scheduler.proofs.Told.{told_past, told_here}
use Rattle.round_scheduler.proofs.telling.told_held.Goals.{then-has_number+in_ok-footprint+in_ok-found, in-Some+in_ok-push, in_default, else-has_number}
use Rattle.round_scheduler.proofs.telling.told_held.Goals as goal

pub role-requires : goal.role-requires
role-requires c = rw (c.requires.plan, length-roles) (c.requires.places c.loop-index.index 0 c.loop-index-test.true)

pub loop-index-preserved : goal.loop-index-preserved
loop-index-preserved c = λ s n same are there.
    let t = c.args.trace.now in
    let first = c.args.first.now in
    let i = c.loop-index.index in
    let k = get_or first i 0 in
    let l : i < length first = c.loop-index-test.true in
    let at = slice_get-get_or first i 0 l in
    let asked = has_number c.args.numbers.now c.args.number in
    let table = c.args.reaches.now in
    let before = c.loop-index.invariant s n same are there in
    let hs = c.loop-index.held.items in
    (elim c.if-has_number.branch [
      | then-has_number+in_ok-footprint+in_ok-found w ↦
          let told = subst (λ f. IsTold k f (take i first) table (option_map held_meant w.in_ok-found.field-0)) (w.in_ok-footprint.ensures ∙ ap (footprint t k) (w.state.ensures ∙ same)) w.in_ok-found.ensures in
          let next = told_here t s n first are table there asked i k at (sym c.has_number.ensures ∙ w.if-has_number.true) hs w.in_ok-found.field-0 before told in
          ap (λ v. map held_meant v.items) w.held-is ∙ (elim w.match-branch-3.branch [
            | in-Some+in_ok-push w' ↦ ap (λ v. map held_meant v.items) w'.held-is ∙ ap (map held_meant) w'.in_ok-push.ensures.items
                ∙ ap (λ o. map held_meant (hs ++ option_to_list o)) (sym w'.in-Some.is) ∙ next
            | in_default w' ↦ ap (λ v. map held_meant v.items) w'.held-is ∙ ap (map held_meant) (sym (append-nil hs))
                ∙ ap (λ o. map held_meant (hs ++ option_to_list o)) (sym w'.in_default.is) ∙ next
          ])
      | else-has_number w ↦
          ap (λ v. map held_meant v.items) w.held-is ∙ before
          ∙ told_past t s n first are table there asked i k at (sym c.has_number.ensures ∙ w.if-has_number.false)
    ])
    ∙ ap (λ ks. held_among t s (filter asked ks)) (sym (take_more first i 0 l))
