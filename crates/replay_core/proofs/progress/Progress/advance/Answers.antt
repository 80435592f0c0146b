use Rattle.std.proofs.Common.{◌≡◌, ◌⊎◌, ◌≤◌, length, filter, ap, subst, sym, ◌∙◌, arith, slice_index_or, false}
use Rattle.std.specs.Prelude.{not}
use Rattle.interleaving.specs.Machine.{has}
use Rattle.wave_pick.specs.Rounds.{state_after}
use Rattle.replay_core.proofs.Fronts.{left_is, front_after}
use Rattle.replay_core.proofs.Dropping.{rises-front, done_is_ran}
use Rattle.replay_core.proofs.progress.Progress.advance.Goals as goal
use Rattle.replay_core.proofs.Lists.{length-filter}

pub drop_ran-requires-clause-rises : goal.drop_ran-requires-clause-rises
drop_ran-requires-clause-rises c =
    let s = c.args.self.now in
    rises-front c.args.trace.now s.window (state_after c.args.trace.now s.window s.round) s.front.items s.next c.requires.front

pub drop_ran-requires-clause-ran : goal.drop_ran-requires-clause-ran
drop_ran-requires-clause-ran c k m =
    let s = c.args.self.now in
    ap (λ done. slice_index_or done k false) c.as_slice.ensures.value
    ∙ done_is_ran c.args.trace.now c.requires.trace s.window s.round s.front.items s.next c.requires.front s.done.items c.requires.keeps.is_done k m
    ∙ ap (λ ks. has ks k) (sym c.requires.ran)

pub filled-requires-clause-few : goal.filled-requires-clause-few
filled-requires-clause-few c =
    let less = length-filter (λ k. not (slice_index_or c.as_slice.result.now k false)) c.args.self.now.front.items in
    let same = ap length c.drop_ran.ensures in
    let few = c.requires.front.few in
    omega arith

pub returns-clause-stands : goal.returns-clause-stands
returns-clause-stands c =
    let t = c.args.trace.now in
    let s = c.args.self.now in
    let n = c.places.ensures in
    let left : c.drop_ran.new.front.items ≡ filter (λ k. not (slice_index_or s.done.items k false)) s.front.items =
    c.drop_ran.ensures ∙ (λ i. filter (λ k. not (slice_index_or (c.as_slice.ensures.value i) k false)) s.front.items) in
    record {
      window = c.requires.window;
      world = c.requires.world;
      keeps = c.requires.keeps;
      front = front_after t c.requires.trace s.window s.round s.front.items s.next c.requires.front c.drop_ran.new.front.items c.filled.new.front.items c.in_ok-self.field-0
          (left ∙ left_is t c.requires.trace s.window s.round s.front.items s.next c.requires.front s.done.items c.requires.keeps.is_done)
          c.in_ok-self.ensures.within.0 (subst (λ k. c.in_ok-self.field-0 ≤ k) n c.in_ok-self.ensures.within.1) c.in_ok-self.ensures.more c.in_ok-self.ensures.few
          (subst (λ k. (length c.filled.new.front.items ≡ s.window) ⊎ (c.in_ok-self.field-0 ≡ k)) n c.in_ok-self.ensures.full);
      picked = c.requires.picked;
    }
