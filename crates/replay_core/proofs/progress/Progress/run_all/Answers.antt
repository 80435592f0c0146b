use Rattle.std.proofs.Common.{◌+◌, inl, inr, ap, ◌∙◌, arith}
use Rattle.std.proofs.lemmas.Result.{IfOk-from_err}
use Rattle.replay_core.proofs.Faults.{given_on, no_memory, went_well}
use Rattle.replay_core.proofs.progress.Progress.run_all.Goals as goal

pub returns-in_err-plan-clause-stands : goal.returns-in_err-plan-clause-stands
returns-in_err-plan-clause-stands g c = IfOk-from_err _ _ c.from_residual.ensures.0

pub returns-in_err-plan-clause-window : goal.returns-in_err-plan-clause-window
returns-in_err-plan-clause-window g c = IfOk-from_err _ _ c.from_residual.ensures.0

pub returns-in_err-plan-clause-over : goal.returns-in_err-plan-clause-over
returns-in_err-plan-clause-over g c = IfOk-from_err _ _ c.from_residual.ensures.0

pub returns-in_err-plan-clause-alone : goal.returns-in_err-plan-clause-alone
returns-in_err-plan-clause-alone g c few = no_memory _ c.from_residual.ensures.1

pub returns-in_err-run-clause-stands : goal.returns-in_err-run-clause-stands
returns-in_err-run-clause-stands g c = IfOk-from_err _ _ c.from_residual-in_err-run.ensures.0

pub returns-in_err-run-clause-window : goal.returns-in_err-run-clause-window
returns-in_err-run-clause-window g c = IfOk-from_err _ _ c.from_residual-in_err-run.ensures.0

pub returns-in_err-run-clause-over : goal.returns-in_err-run-clause-over
returns-in_err-run-clause-over g c = IfOk-from_err _ _ c.from_residual-in_err-run.ensures.0

pub returns-in_err-run-clause-alone : goal.returns-in_err-run-clause-alone
returns-in_err-run-clause-alone g c few = given_on _ _ _ c.from_residual-in_err-run.ensures.1 (c.in_err-run.ensures.alone few)

pub loop-round-preserved : goal.loop-round-preserved
loop-round-preserved g c = record {
  stands = c.in_ok-run.ensures.stands;
  window = c.in_ok-run.ensures.next.0 ∙ c.loop-round.invariant.window;
  round = c.in_ok-run.ensures.next.1 ∙ ap (λ r. r + 1) c.loop-round.invariant.round;
}

pub returns-then-is_over-clause-stands : goal.returns-then-is_over-clause-stands
returns-then-is_over-clause-stands g c = c.loop-round.invariant.stands

pub returns-then-is_over-clause-window : goal.returns-then-is_over-clause-window
returns-then-is_over-clause-window g c = c.loop-round.invariant.window

pub returns-then-is_over-clause-over : goal.returns-then-is_over-clause-over
returns-then-is_over-clause-over g c = inl (c.is_over.ensures.0 c.if-is_over.true)

pub returns-then-is_over-clause-alone : goal.returns-then-is_over-clause-alone
returns-then-is_over-clause-alone g c few = went_well _ _

pub returns-clause-stands : goal.returns-clause-stands
returns-clause-stands g c = c.loop-round.invariant.stands

pub returns-clause-window : goal.returns-clause-window
returns-clause-window g c = c.loop-round.invariant.window

pub returns-clause-over : goal.returns-clause-over
returns-clause-over g c = inr (omega (arith, c.loop-round.invariant.round, c.loop-round-test.false, c.loop-round.auto._round-end, c.places-round-end.ensures))

pub returns-clause-alone : goal.returns-clause-alone
returns-clause-alone g c few = went_well _ _
