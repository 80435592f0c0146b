use Rattle.std.proofs.Common.{subst, sym, ap, ◌∙◌}
use Rattle.std.proofs.lemmas.Result.{IfOk-from_err}
use Rattle.wave_pick.specs.Rounds.{rounds}
use Rattle.replay_core.specs.Noted.{AreAllNoted}
use Rattle.replay_core.proofs.Faults.{given_on, no_memory, went_well}
use Rattle.replay_core.proofs.Noting.{none_noted}
use Rattle.replay_core.proofs.round_log.waits_by.Goals as goal

pub returns-in_err-waits-clause-waits : goal.returns-in_err-waits-clause-waits
returns-in_err-waits-clause-waits g c = IfOk-from_err _ _ c.from_residual.ensures.0

pub returns-in_err-waits-clause-alone : goal.returns-in_err-waits-clause-alone
returns-in_err-waits-clause-alone g c = no_memory _ c.from_residual.ensures.1

pub returns-in_err-progress-clause-waits : goal.returns-in_err-progress-clause-waits
returns-in_err-progress-clause-waits g c = IfOk-from_err _ _ c.from_residual-in_err-progress.ensures.0

pub returns-in_err-progress-clause-alone : goal.returns-in_err-progress-clause-alone
returns-in_err-progress-clause-alone g c = no_memory _ c.from_residual-in_err-progress.ensures.1

pub returns-in_err-run_noting-clause-waits : goal.returns-in_err-run_noting-clause-waits
returns-in_err-run_noting-clause-waits g c = IfOk-from_err _ _ c.from_residual-in_err-run_noting.ensures.0

pub returns-in_err-run_noting-clause-alone : goal.returns-in_err-run_noting-clause-alone
returns-in_err-run_noting-clause-alone g c = given_on _ _ _ c.from_residual-in_err-run_noting.ensures.1 c.in_err-run_noting.ensures.alone

pub run_noting-requires-clause-noted : goal.run_noting-requires-clause-noted
run_noting-requires-clause-noted g c κs within = none_noted c.args.trace.now c.in_ok-progress.progress.window c.in_ok-waits.waits.items c.in_ok-waits.ensures

pub run_noting-requires-clause-stands : goal.run_noting-requires-clause-stands
run_noting-requires-clause-stands g c κs within = c.in_ok-progress.ensures.stands

pub run_noting-requires-clause-first : goal.run_noting-requires-clause-first
run_noting-requires-clause-first g c κs within = c.in_ok-progress.ensures.first.1

pub run_noting-requires-clause-rounds : goal.run_noting-requires-clause-rounds
run_noting-requires-clause-rounds g c κs within = c.requires.rounds ∙ ap (rounds c.args.trace.now) (sym c.in_ok-progress.ensures.first.0)

pub returns-clause-waits : goal.returns-clause-waits
returns-clause-waits g c =
    subst (AreAllNoted c.args.trace.now c.args.window) (sym c.from_vec.ensures)
    (subst (λ window. AreAllNoted c.args.trace.now window c.run_noting.new.waits.items) c.in_ok-progress.ensures.first.0 c.in_ok-run_noting.ensures.noted)

pub returns-clause-alone : goal.returns-clause-alone
returns-clause-alone g c = went_well _ _
