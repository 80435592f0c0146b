use Rattle.std.proofs.Common.{Some, refl, sym, ap, subst, ◌∙◌}
use Rattle.std.proofs.lemmas.Option.{slice_get-get_or}
use Rattle.round_scheduler.specs.Scheduling.{Flags}
use Rattle.round_scheduler.proofs.Listing.{wakes_list}
use Rattle.round_scheduler.proofs.scheduler.Scheduler.wake.Goals as goal

pub returns : goal.returns
returns c =
    let s = c.args.self.now in
    let k = c.args.place in
    let old = c.index_mut.result.now in
    wakes_list s _ k c.replace-woken.result c.replace-woken.new.dest (slice_get-get_or s.resting.items k old c.requires ∙ ap Some (sym (c.replace-woken.ensures.value ∙ c.index_mut.ensures.value))) refl
    (subst (λ ks. Flags ks s.again.items c.flag.new.again.items) c.as_slice.ensures.value c.flag.ensures) refl
