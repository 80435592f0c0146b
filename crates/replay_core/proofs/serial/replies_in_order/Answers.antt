use Rattle.std.proofs.Common.{add-one, ap, arith, ◌∙◌}
use Rattle.chain_plan.proofs.Walk.{role_in}
use Rattle.op_meaning.specs.Step.{step_reply, step_world}
use Rattle.replay_core.proofs.Places.{HasPlace, next_has, run_replies-more}
use Rattle.replay_core.proofs.serial.replies_in_order.Goals.{After-role}
use Rattle.replay_core.proofs.serial.replies_in_order.Goals as goal

-- the stretch has the place, whether it is the one before or a new one
has_place : (c : After-role) → HasPlace c.args.trace.now c.loop-place.place c.if-place-end.plan
has_place c =
    let t = c.args.trace.now in
    let k = c.loop-place.place in
    elim c.if-place-end.branch [
      | goal.then-place-end+in_ok-plan w ↦ rw w.plan-is (next_has t k c.loop-place.plan _ w.in_ok-plan.ensures.stretch w.in_ok-plan.ensures.behind w.in_ok-plan.ensures.least
          (w.if-place-end.true ∙ c.end.ensures) (omega (arith, c.loop-place-test.true, c.places-place-end.ensures)))
      | goal.else-place-end w ↦ rw w.plan-is (record {
        stretch = c.loop-place.invariant.stretch;
        from = c.loop-place.invariant.from;
        within = omega (arith, c.loop-place.invariant.within, c.end.ensures, w.if-place-end.false);
      })
    ]

pub run_on_state-requires-clause-role : goal.run_on_state-requires-clause-role
run_on_state-requires-clause-role c =
    let has = has_place (goal.at.run_on_state-requires-clause-role c).After-role in
    role_in c.args.trace.now c.if-place-end.plan c.loop-place.place _ has.stretch has.from c.role.ensures.at_place

pub loop-place-preserved : goal.loop-place-preserved
loop-place-preserved c =
    let t = c.args.trace.now in
    let k = c.loop-place.place in
    let has = has_place (goal.at.loop-place-preserved c).After-role in
    record {
      state = rw add-one (c.in_ok-run_on_state.ensures.state ∙ ap (step_world t k) c.loop-place.invariant.state);
      replies = run_replies-more t k c.loop-place.replies c.push.new.self c.in_ok-run_on_state.field-0 c.loop-place.invariant.replies
          (c.in_ok-run_on_state.ensures.reply ∙ ap (step_reply t k) c.loop-place.invariant.state) c.in_ok-push.ensures.ok;
      stretch = has.stretch;
      from = omega (arith, has.from);
      within = omega (arith, has.within);
    }
