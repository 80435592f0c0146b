use Rattle.std.proofs.Common.{◌≡◌, ◌-◌, ap, arith, refl, ◌∙◌, ◌++◌, ◌∷◌, []}
use Rattle.chain_plan.proofs.Walk.{role_in}
use Rattle.op_meaning.specs.Step.{step_reply, step_world}
use Rattle.replay_stream.proofs.Places.{HasPlace, next_has, no_places, replies_more, world_more}
use Rattle.replay_stream.proofs.replaying.replies_from.Goals.{After-role}
use Rattle.replay_stream.proofs.replaying.replies_from.Goals as goal

-- the stretch has the place, whether it is the one before or a new one
has_place : (c : After-role) → HasPlace c.args.recording.now c.loop-place.place c.if-place-end.plan
has_place c =
    let t = c.args.recording.now in
    let k = c.loop-place.place in
    elim c.if-place-end.branch [
      | goal.then-place-end+in_ok-plan w ↦ rw w.plan-is (next_has t k c.loop-place.plan _ w.in_ok-plan.ensures.stretch w.in_ok-plan.ensures.behind w.in_ok-plan.ensures.least
          (w.if-place-end.true ∙ c.end.ensures) (omega (arith, c.loop-place-test.true, c.places-place-end.ensures)))
      | goal.else-place-end w ↦ rw w.plan-is (record {
        stretch = c.loop-place.invariant.stretch;
        from = c.loop-place.invariant.from;
        within = omega (arith, c.loop-place.invariant.within, c.end.ensures, w.if-place-end.false);
      })
    ]

pub loop-place-init : goal.loop-place-init
loop-place-init c =
    let none : c.args.first - c.args.first ≡ 0 = omega arith in
    let is = c.ahead_of-plan.ensures in
    record {
      state = rw none refl;
      replies = rw none c.clear.ensures;
      stretch = rw is (no_places c.args.recording.now c.args.first c.requires.within c.requires.apart c.requires.chains);
      behind = omega arith;
      from = rw is (omega arith);
      within = rw is (omega arith);
    }

pub run_on_state-requires-clause-role : goal.run_on_state-requires-clause-role
run_on_state-requires-clause-role c =
    let has = has_place (goal.at.run_on_state-requires-clause-role c).After-role in
    role_in c.args.recording.now c.if-place-end.plan c.loop-place.place _ has.stretch has.from c.role.ensures.at_place

pub loop-place-preserved : goal.loop-place-preserved
loop-place-preserved c =
    let t = c.args.recording.now in
    let k = c.loop-place.place in
    let s = c.args.state.now in
    let invariant = c.loop-place.invariant in
    let has = has_place (goal.at.loop-place-preserved c).After-role in
    let reply = c.in_ok-run_on_state.field-0 in
    record {
      state = rw (world_more t c.args.first k s invariant.behind) (c.in_ok-run_on_state.ensures.state ∙ ap (step_world t k) invariant.state);
      replies = rw (replies_more t c.args.first k s invariant.behind reply (c.in_ok-run_on_state.ensures.reply ∙ ap (step_reply t k) invariant.state)) (c.in_ok-push.ensures.ok ∙ ap (λ l. l ++ reply ∷ []) invariant.replies);
      stretch = has.stretch;
      behind = omega (arith, invariant.behind);
      from = omega (arith, has.from);
      within = omega (arith, has.within);
    }
