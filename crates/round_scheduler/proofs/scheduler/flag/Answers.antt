use Rattle.std.proofs.Common.{take, get_or, ap, subst, sym, refl, rules}
use Rattle.std.proofs.lemmas.List.{take_more}
use Rattle.round_scheduler.specs.Scheduling.{Flags}
use Rattle.round_scheduler.proofs.Knowing.{flags_more, flags_past}
use Rattle.wave_pick.proofs.Lists.{not_both}
use Rattle.round_scheduler.proofs.scheduler.flag.Goals.{in-Some, in_default}
use Rattle.round_scheduler.proofs.scheduler.flag.Goals as goal

pub loop-place-preserved : goal.loop-place-preserved
loop-place-preserved c =
    let ks = c.args.places.now in
    let i = c.loop-place.place-index in
    let k = get_or ks i 0 in
    let more = take_more ks i 0 (search rules) in
    subst (λ xs. Flags xs c.args.again.now.items c.match-get_mut.again.items) (sym more) (elim c.match-get_mut.branch [
      | in-Some w ↦ flags_more (take i ks) k _ _ _ c.loop-place.invariant (ap (λ v. v.items) w.again-is)
      | in_default w ↦ flags_past (take i ks) k _ _ _ c.loop-place.invariant (ap (λ v. v.items) w.again-is) (λ lt. not_both (w.in_default.ensures.item.2 lt) refl)
    ])
