use Rattle.std.proofs.Common.{◌≡◌, ◌+◌, length, arith, ap, ◌∙◌}
use Rattle.recording.specs.Steps.{step_meant}
use Rattle.chain_plan.specs.Stretch.{chains_ahead}
use Rattle.chain_plan.specs.Walk.{marks_of}
use Rattle.chain_plan.proofs.Walk.{walks_on, chains_long, member_short, member_above, chain_short, walked_held, walked_stretch, walked_long, stops_apart, goes_on, end_apart, next_number, walks_alone, walked_to}
use Rattle.chain_plan.proofs.stretch.Stretch.next.Goals.{After-len, After-len-2}
use Rattle.chain_plan.proofs.stretch.Stretch.next.Goals as goal

pub marks_of-marks-requires : goal.marks_of-marks-requires
marks_of-marks-requires c = λ e is. c.requires.spelled.fits c.loop-place.place _ e c.step-step.ensures is

pub overflow_cast-next : goal.overflow_cast-next
overflow_cast-next c =
    omega (arith, c.len-in-loop-place.ensures, c.loop-place.chains.ok.0, chains_long c.loop-place.invariant.walked, c.loop-place.invariant.walked.within, c.requires.spelled.sizes.places)

-- the chains so far are as many as there are ahead of the first place
number : (c : After-len) → c.self.inside.chains_before + c.len.result ≡ chains_ahead c.args.trace.now c.end-first.result
number c = next_number c.args.trace.now c.args.self c.end-first.result _ c.requires.stretch c.end-first.ensures (omega (arith, c.len.ensures, ap (λ s. s.chains) c.self.view_is))

pub push_lone-requires : goal.push_lone-requires
push_lone-requires c =
    omega (arith, number (goal.at.push_lone-requires c).After-len, chains_long c.lone.invariant.walked, c.lone.invariant.walked.within, c.places.ensures, c.requires.spelled.sizes.places)

pub lone-preserved : goal.lone-preserved
lone-preserved c = record {
  walked = walks_alone c.lone.invariant.walked _ _ _ (c.self.inside.chains_before + c.len.result + length c.lone.chains.items) _ c.step.ensures
      (c.in-Some.ensures.marks c.args.trace.now.version) c.in-Some.ensures.links
      (ap (λ before. before + length c.lone.chains.items) (number (goal.at.lone-preserved c).After-len)) c.in_ok-push_lone.ensures.chain c.in_ok-push_lone.ensures.member;
  few = omega (arith, c.lone-test.true, c.min-limit.ensures, c.saturating_add.ensures);
}

-- the places that were walked past alone are the members so far
alone_to : (c : After-len-2) → c.end-first.result + c.len-2.result ≡ c.lone.place
alone_to c = omega (arith, walked_to c.lone.invariant.walked, c.len-2.ensures, c.lone.members.ok.0)

pub overflow_cast-place : goal.overflow_cast-place
overflow_cast-place c =
    omega (arith, alone_to (goal.at.overflow_cast-place c).After-len-2, c.lone.invariant.walked.within, c.places.ensures, c.requires.spelled.sizes.places)

pub overflow_step-place-2 : goal.overflow_step-place-2
overflow_step-place-2 c =
    omega (arith, alone_to (goal.at.overflow_step-place-2 c).After-len-2, c.lone.invariant.walked.within, c.places.ensures, c.requires.spelled.sizes.places)

pub loop-place-init : goal.loop-place-init
loop-place-init c =
    let to = alone_to (goal.at.loop-place-init c).After-len-2 in
    record {
      walked = rw to c.lone.invariant.walked;
      most = λ k least below. absurd (omega (arith, least, below, to, c.lone.invariant.few));
    }

pub overflow_add-next : goal.overflow_add-next
overflow_add-next c =
    omega (arith, number (goal.at.overflow_add-next c).After-len, c.len-in-loop-place.ensures, c.loop-place.chains.ok.0, chains_long c.loop-place.invariant.walked, c.loop-place.invariant.walked.within, c.requires.spelled.sizes.places)

pub member_after-member-requires : goal.member_after-member-requires
member_after-member-requires c =
    member_short c.loop-place.invariant.walked _ _ c.step-step.ensures (omega (arith, c.loop-place.invariant.walked.within, c.requires.spelled.sizes.places)) c.followed-ahead.ensures

pub overflow_sub-member : goal.overflow_sub-member
overflow_sub-member c =
    rw (number (goal.at.overflow_sub-member c).After-len, c.member_after-member.ensures) (member_above c.loop-place.invariant.walked _ _ _ _ c.step-step.ensures c.followed-ahead.ensures
    (omega (arith, number (goal.at.overflow_sub-member c).After-len, c.len-in-loop-place.ensures, c.loop-place.chains.ok.0)))

pub count_member-requires : goal.count_member-requires
count_member-requires c =
    chain_short c.loop-place.invariant.walked (omega (arith, c.loop-place.invariant.walked.within, c.requires.spelled.sizes.places)) _

pub loop-place-preserved : goal.loop-place-preserved
loop-place-preserved c =
    let marks = c.marks_of-marks.ensures ∙ ap (λ b. marks_of c.args.trace.now.version b (step_meant c.step-step.result)) c.is_some.ensures in record {
      walked = walks_on c.loop-place.invariant.walked _ _ _ _ _ _ _ _ c.step-step.ensures marks c.followed-ahead.ensures
          (omega (arith, number (goal.at.loop-place-preserved c).After-len, c.len-in-loop-place.ensures, c.loop-place.chains.ok.0))
          c.member_after-member.ensures (rw (number (goal.at.loop-place-preserved c).After-len) at c.in_ok-count_member.ensures) c.link_from-linked.ensures c.in_ok-push.ensures.items;
      most = goes_on c.loop-place.invariant.walked (c.end-first.result + c.args.least) _ _ c.step-step.ensures c.followed-ahead.ensures
          (λ reached. elim c.else-is_none.branch [
            | goal.else-is_none-via-then-is_none+else-place-first w ↦ absurd (omega (arith, reached, w.if-place-first.false, c.loop-place.invariant.walked.forward))
            | goal.else-is_none-via-else-is_none w ↦ w.if-is_none.ensures
          ])
          c.loop-place.invariant.most;
    }

pub invariant_of-result : goal.invariant_of-result
invariant_of-result c =
    rw (number (goal.at.invariant_of-result c).After-len) (walked_held c.loop-place.invariant.walked (omega (arith, c.loop-place.invariant.walked.within, c.requires.spelled.sizes.places)))

pub returns-clause-stretch : goal.returns-clause-stretch
returns-clause-stretch c =
    rw (number (goal.at.returns-clause-stretch c).After-len) (walked_stretch c.loop-place.invariant.walked (elim c.loop-place-test.branch [
      | goal.else-loop-place-test w ↦ end_apart c.args.trace.now c.loop-place.place (omega (arith, w.loop-place-test.false, c.places-place-end.ensures))
      | goal.then-loop-place-test+then-is_none+then-place-first w ↦
          stops_apart c.loop-place.invariant.walked _ _ w.step-step.ensures w.followed-ahead.ensures w.if-is_none.ensures
    ]))

pub returns-clause-least : goal.returns-clause-least
returns-clause-least c =
    rw (number (goal.at.returns-clause-least c).After-len) (elim c.loop-place-test.branch [
      | goal.else-loop-place-test w ↦ omega (arith, walked_long c.loop-place.invariant.walked, w.loop-place-test.false, c.places-place-end.ensures)
      | goal.then-loop-place-test+then-is_none+then-place-first w ↦
          omega (arith, walked_long c.loop-place.invariant.walked, w.loop-place-test.true, w.if-place-first.true, c.places-place-end.ensures)
    ])

pub returns-clause-most : goal.returns-clause-most
returns-clause-most c =
    rw (number (goal.at.returns-clause-most c).After-len) (λ k least below. c.loop-place.invariant.most k least (omega (arith, below, walked_long c.loop-place.invariant.walked)))
