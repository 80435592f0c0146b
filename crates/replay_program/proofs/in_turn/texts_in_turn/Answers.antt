use Rattle.std.proofs.Common.{add-one, ap, arith, sym, ◌∙◌}
use Rattle.chain_plan.proofs.Walk.{role_in}
use Rattle.recording.specs.Steps.{step_meant}
use Rattle.op_meaning.specs.Step.{sequential_reply, step_reply, step_world}
use Rattle.replay_core.proofs.Places.{HasPlace, next_has}
use Rattle.replay_report.specs.Report.{list_count}
use Rattle.replay_report.proofs.RingTextsLemmas.{answer_walked}
use Rattle.replay_program.proofs.in_turn.texts_in_turn.Goals.{After-role}
use Rattle.replay_program.proofs.in_turn.texts_in_turn.Goals as goal

-- the stretch has the place, whether it is the one before or a new one
has_place : (c : After-role) → HasPlace c.args.trace.now c.loop-place.place c.if-place-end.plan
has_place c =
    let t = c.args.trace.now in
    let k = c.loop-place.place in
    elim c.if-place-end.branch [
      | goal.then-place-end+in_ok-plan w ↦ rw w.plan-is (next_has t k c.loop-place.plan _ w.in_ok-plan.ensures.stretch w.in_ok-plan.ensures.behind w.in_ok-plan.ensures.least
          (w.if-place-end.true ∙ c.end.ensures) (omega (arith, c.loop-place-test.true, c.places-place-end.ensures)))
      | goal.else-place-end w ↦ rw w.plan-is (record {
        stretch = c.loop-place.invariant.stretch;
        from = c.loop-place.invariant.from;
        within = omega (arith, c.loop-place.invariant.within, c.end.ensures, w.if-place-end.false);
      })
    ]

pub run_step-requires-clause-role : goal.run_step-requires-clause-role
run_step-requires-clause-role c =
    let has = has_place (goal.at.run_step-requires-clause-role c).After-role in
    role_in c.args.trace.now c.if-place-end.plan c.loop-place.place _ has.stretch has.from c.role.ensures.at_place

pub loop-place-preserved : goal.loop-place-preserved
loop-place-preserved c =
    let t = c.args.trace.now in
    let k = c.loop-place.place in
    let has = has_place (goal.at.loop-place-preserved c).After-role in
    let answers = sym (c.in_ok-reply.ensures.reply ∙ ap (step_reply t k) c.loop-place.invariant.state) in
    record {
      state = rw add-one (c.in_ok-reply.ensures.state ∙ ap (step_world t k) c.loop-place.invariant.state);
      texts = c.in_ok-push.ensures
          ∙ answer_walked t (sequential_reply t) c.args.lines k (list_count c.args.lines t) (step_meant c.step-step.result) c.of.result c.in_ok-reply.reply c.loop-place.texts
          c.step-step.ensures answers c.of.ensures c.loop-place.invariant.texts;
      stretch = has.stretch;
      from = omega (arith, has.from);
      within = omega (arith, has.within);
    }
