use Rattle.std.proofs.Common.{◌+◌, ◌<◌, length, drop, get_or, [], ◌∷◌, ap, sym, subst, refl, ◌∙◌, arith}
use Rattle.std.proofs.Math.ListN.{set}
use Rattle.std.proofs.lemmas.List.{drop_more, drop_all}
use Rattle.interleaving.specs.Machine.{State}
use Rattle.interleaving.proofs.Members.{has-here}
use Rattle.interleaving.proofs.Onwards.{ran}
use Rattle.chain_plan.proofs.Walk.{length-roles}
use Rattle.recording.specs.Steps.{places}
use Rattle.world_parts.specs.Part.{Part, Divided}
use Rattle.foot_print.specs.Replayed.{replayed}
use Rattle.op_meaning.specs.Step.{step_world, step_reply}
use Rattle.wave_pick.specs.Rounds.{state_after}
use Rattle.replay_core.proofs.Stepping.{Steps, StepsHere, steps-begin, steps-on, steps-end, as_kept, same_round-on, has_run}
use Rattle.replay_core.proofs.progress.Progress.run_here.Given.{Over}
use Rattle.replay_core.proofs.progress.Progress.run_here.Goals.{In-loop-place}
use Rattle.replay_core.proofs.progress.Progress.run_here.Goals as goal

pub loop-place-init : goal.loop-place-init
loop-place-init g c =
    let t = c.args.trace.now in
    let s = c.args.self.now in
    record {
      steps = record {
        state = state_after t s.window s.round;
        world = ap (λ (p : Part). p.values) c.exchange.ensures.part ∙ ap (λ (d : Divided). d.world) c.requires.begins.world;
        steps = subst (λ ks. Steps t s.window s.round ks (state_after t s.window s.round) s.replies s.rounds.items s.done.items) (sym c.requires.ran)
            (steps-begin t c.requires.trace s.window s.round s.replies s.rounds.items s.done.items c.requires.round c.requires.begins.keeps);
      };
      home = ap (λ (d : Divided). d.out) c.exchange.ensures.world ∙ ap (λ (d : Divided). d.out) c.requires.begins.world;
      rest = (refl, refl, refl, refl, refl);
    }

-- what holds before the place of this turn runs
before : (g : Over) (c : In-loop-place g) → StepsHere c.args.trace.now c.args.self.now.window c.args.self.now.round
    (get_or c.args.ran.now c.loop-place.place-index 0 ∷ drop (c.loop-place.place-index + 1) c.args.ran.now) c.loop-place.self.spare.values c.loop-place.self.replies c.loop-place.self.rounds.items c.loop-place.self.done.items
before g c =
    let s = c.loop-place.self in
    subst (λ ks. StepsHere c.args.trace.now c.args.self.now.window c.args.self.now.round ks s.spare.values s.replies s.rounds.items s.done.items)
    (drop_more c.args.ran.now c.loop-place.place-index 0 c.loop-place-test.true) c.loop-place.invariant.steps

-- the place is one of the trace
within : (g : Over) (c : In-loop-place g) → get_or c.args.ran.now c.loop-place.place-index 0 < places c.args.trace.now
within g c =
    let k = get_or c.args.ran.now c.loop-place.place-index 0 in
    ((before g c).steps.settled k (has-here k (drop (c.loop-place.place-index + 1) c.args.ran.now))).0

pub role-requires : goal.role-requires
role-requires g c =
    let d = (goal.at.role-requires g c).In-loop-place in
    subst (λ n. get_or c.args.ran.now c.loop-place.place-index 0 < n) (sym (ap length c.requires.plan ∙ length-roles c.args.trace.now)) (within g d)

pub run-requires-clause-place : goal.run-requires-clause-place
run-requires-clause-place g c = within g (goal.at.run-requires-clause-place g c).In-loop-place

pub keep-requires-clause-replies : goal.keep-requires-clause-replies
keep-requires-clause-replies g c =
    let d = (goal.at.keep-requires-clause-replies g c).In-loop-place in
    omega (arith, within g d, (before g d).steps.keeps.many_replies)

pub keep-requires-clause-rounds : goal.keep-requires-clause-rounds
keep-requires-clause-rounds g c =
    let d = (goal.at.keep-requires-clause-rounds g c).In-loop-place in
    omega (arith, within g d, (before g d).steps.keeps.many_rounds)

pub keep-requires-clause-done : goal.keep-requires-clause-done
keep-requires-clause-done g c =
    let d = (goal.at.keep-requires-clause-done g c).In-loop-place in
    omega (arith, within g d, (before g d).steps.keeps.many_done)

pub loop-place-preserved : goal.loop-place-preserved
loop-place-preserved g c =
    let t = c.args.trace.now in
    let window = c.args.self.now.window in
    let r = c.args.self.now.round in
    let s = c.loop-place.self in
    let ks = drop (c.loop-place.place-index + 1) c.args.ran.now in
    let k = get_or c.args.ran.now c.loop-place.place-index 0 in
    let h = before g (goal.at.loop-place-preserved g c).In-loop-place in
    let kept = c.in_ok-keep.ensures in
    record {
      steps = record {
        state = ran (replayed t) h.state k;
        world = ap (λ (p : Part). p.values) (kept.worlds.1 ∙ c.in_ok-reply.ensures.values) ∙ ap (step_world t k) h.world;
        steps = as_kept (Steps t window r ks (ran (replayed t) h.state k)) kept.replies (kept.rounds ∙ ap (set s.rounds.items k) c.loop-place.invariant.rest.1) kept.done
            (steps-on t window r k ks h.state s.replies s.rounds.items s.done.items c.in_ok-reply.reply h.steps (c.in_ok-reply.ensures.reply ∙ ap (step_reply t k) h.world));
      };
      home = ap (λ (d : Divided). d.out) kept.worlds.0 ∙ c.loop-place.invariant.home;
      rest = same_round-on c.args.self.now s c.keep.new.self c.loop-place.invariant.rest kept.rest;
    }

pub returns : goal.returns
returns g c =
    let t = c.args.trace.now in
    let old = c.args.self.now in
    let s = c.loop-place.self in
    let over : StepsHere t old.window old.round [] s.spare.values s.replies s.rounds.items s.done.items =
    subst (λ ks. StepsHere t old.window old.round ks s.spare.values s.replies s.rounds.items s.done.items) (drop_all c.loop-place.place-index c.args.ran.now c.loop-place-test.false) c.loop-place.invariant.steps in
    let world = over.world ∙ ap (λ (x : State (replayed t)). x.world) over.steps.leads in
    record {
      ran = has_run t old _ (steps-end t old.window old.round over.state s.replies s.rounds.items s.done.items over.steps)
          (c.exchange-2.ensures.world ∙ (λ i. record { world = world i; out = c.loop-place.invariant.home i })) c.loop-place.invariant.rest;
    }
