use Rattle.std.proofs.Common.{◌+◌, inl, inr, map, ap, sym, subst, ◌∙◌, arith}
use Rattle.std.specs.Option.{option_map}
use Rattle.std.proofs.lemmas.Result.{IfOk-from_err}
use Rattle.wave_pick.specs.Rounds.{rounds}
use Rattle.replay_core.specs.Noted.{AreAllNoted, noted}
use Rattle.replay_core.specs.Waits.{waited_meant}
use Rattle.replay_core.proofs.Faults.{given_on, no_memory, went_well}
use Rattle.replay_core.proofs.Noting.{all_noted, noted_more, told_low}
use Rattle.replay_core.proofs.round_log.run_noting.Goals as goal

pub returns-in_err-plan-clause-noted : goal.returns-in_err-plan-clause-noted
returns-in_err-plan-clause-noted g c = IfOk-from_err _ _ c.from_residual.ensures.0

pub returns-in_err-plan-clause-alone : goal.returns-in_err-plan-clause-alone
returns-in_err-plan-clause-alone g c = no_memory _ c.from_residual.ensures.1

pub returns-in_err-held-clause-noted : goal.returns-in_err-held-clause-noted
returns-in_err-held-clause-noted g c = IfOk-from_err _ _ c.from_residual-in_err-held.ensures.0

pub returns-in_err-held-clause-alone : goal.returns-in_err-held-clause-alone
returns-in_err-held-clause-alone g c = given_on _ _ _ c.from_residual-in_err-held.ensures.1 (c.in_err-held.ensures.alone (omega arith))

pub run_telling-requires-clause-round : goal.run_telling-requires-clause-round
run_telling-requires-clause-round g c κs lives = omega (arith, c.loop-round.invariant.round, c.loop-round-test.true, c.places-round-end.ensures)

pub run_telling-requires-clause-stands : goal.run_telling-requires-clause-stands
run_telling-requires-clause-stands g c κs lives = c.loop-round.invariant.stands

pub write_held-requires : goal.write_held-requires
write_held-requires g c =
    let t = c.args.trace.now in
    let p = c.loop-round.progress in
    let before = c.loop-round.invariant in
    told_low t c.requires.trace p.window before.stands.window p.round p.front.items p.next before.stands.front c.args.rounds.now (p.round + 1) c.in_ok-held.held _ before.noted.many c.in_ok-held.ensures.held

pub loop-round-preserved : goal.loop-round-preserved
loop-round-preserved g c =
    let t = c.args.trace.now in
    let p = c.loop-round.progress in
    let before = c.loop-round.invariant in
    let ran = c.in_ok-held.ensures in
    let same = c.requires.rounds ∙ ap (rounds t) (sym before.window) in
    record {
      stands = ran.stands;
      window = ran.next.0 ∙ before.window;
      round = ran.next.1 ∙ ap (λ r. r + 1) before.round;
      noted = rw (ran.next.0, ran.next.1)
          (noted_more t c.requires.trace p.window before.stands.window p.round p.front.items p.next before.stands.front c.args.rounds.now c.loop-round.waits.items c.write_held.new.waits.items same before.noted
          c.write_held.ensures.many (c.write_held.ensures.noted ∙ ap (noted (map (option_map waited_meant) c.loop-round.waits.items)) ran.held));
    }

pub returns-then-is_over-clause-noted : goal.returns-then-is_over-clause-noted
returns-then-is_over-clause-noted g c =
    let before = c.loop-round.invariant in
    subst (λ w. AreAllNoted c.args.trace.now w c.loop-round.waits.items) before.window
    (all_noted c.args.trace.now c.requires.trace c.loop-round.progress before.stands (inl (c.is_over.ensures.0 c.if-is_over.true)) c.loop-round.waits.items before.noted)

pub returns-then-is_over-clause-alone : goal.returns-then-is_over-clause-alone
returns-then-is_over-clause-alone g c = went_well _ _

pub returns-clause-noted : goal.returns-clause-noted
returns-clause-noted g c =
    let before = c.loop-round.invariant in
    subst (λ w. AreAllNoted c.args.trace.now w c.loop-round.waits.items) before.window
    (all_noted c.args.trace.now c.requires.trace c.loop-round.progress before.stands
    (inr (omega (arith, before.round, c.loop-round-test.false, c.loop-round.auto._round-end, c.places-round-end.ensures))) c.loop-round.waits.items before.noted)

pub returns-clause-alone : goal.returns-clause-alone
returns-clause-alone g c = went_well _ _
