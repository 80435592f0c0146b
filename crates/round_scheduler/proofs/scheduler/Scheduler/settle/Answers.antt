use Rattle.std.proofs.Common.{◌≡◌, suc, map, [], refl, sym, ◌∙◌, arith}
use Rattle.wave_pick.specs.Picking.{chosen_at, free_from}
use Rattle.round_scheduler.proofs.Between.{chosen_are, remembers_on}
use Rattle.round_scheduler.proofs.scheduler.Scheduler.settle.Goals as goal

pub returns-clause-settles : goal.returns-clause-settles
returns-clause-settles c = λ window w first a seen.
    let t = c.args.trace.now in
    let s = c.args.self.now in
    let free = c.args.free.now in
    let later = c.release.new.self in
    let chosen = c.in_ok-chosen.chosen.items in
    let released = c.in_ok-chosen.ensures in
    let least = c.min-self.ensures in
    let all = c.places-places.ensures in
    let below = c.requires.round in
    let then = released.same.round in
    let next : c.min-self.result ≡ suc s.round = omega (arith, least, all, below, then) in
    record {
      wave_is = c.from_vec.ensures ∙ chosen_are t c.requires.trace window w s.round first a s free seen later chosen released
          ∙ (λ i. map (chosen_at t (sym a.world i)) (free_from t (sym a.world i) [] first));
      remembers = remembers_on t c.requires.trace window w s.round first a s free seen later chosen released c.requires.room _ next refl refl refl refl;
    }
