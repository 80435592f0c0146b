use Rattle.std.proofs.Common.{refl}
use Rattle.std.proofs.lemmas.Result.{IfOk-from_err}
use Rattle.replay_core.proofs.Faults.{given_alike, given_on, not_told}
use Rattle.replay_core.proofs.parallel.replay.Goals as goal

pub returns-in_err-checked-clause-replay : goal.returns-in_err-checked-clause-replay
returns-in_err-checked-clause-replay g c = IfOk-from_err _ _ c.from_residual.ensures.0

pub returns-in_err-checked-clause-workers : goal.returns-in_err-checked-clause-workers
returns-in_err-checked-clause-workers g c = given_alike _ _ _ c.from_residual.ensures.1 c.in_err-checked.ensures.workers

pub returns-in_err-checked-clause-window : goal.returns-in_err-checked-clause-window
returns-in_err-checked-clause-window g c = given_alike _ _ _ c.from_residual.ensures.1 c.in_err-checked.ensures.window

pub returns-in_err-checked-clause-alone : goal.returns-in_err-checked-clause-alone
returns-in_err-checked-clause-alone g c one = given_on _ _ _ c.from_residual.ensures.1 c.in_err-checked.ensures.others.1

pub returns-in-Ok-clause-workers : goal.returns-in-Ok-clause-workers
returns-in-Ok-clause-workers g c = not_told _ _ _ tt refl c.in_ok-checked.ensures.workers

pub returns-in-Ok-clause-window : goal.returns-in-Ok-clause-window
returns-in-Ok-clause-window g c = not_told _ _ _ tt refl c.in_ok-checked.ensures.window

pub returns-in-Err-Memory-clause-workers : goal.returns-in-Err-Memory-clause-workers
returns-in-Err-Memory-clause-workers g c = not_told _ _ _ refl refl c.in_ok-checked.ensures.workers

pub returns-in-Err-Memory-clause-window : goal.returns-in-Err-Memory-clause-window
returns-in-Err-Memory-clause-window g c = not_told _ _ _ refl refl c.in_ok-checked.ensures.window

pub returns-in-Err-NoThread-clause-workers : goal.returns-in-Err-NoThread-clause-workers
returns-in-Err-NoThread-clause-workers g c = not_told _ _ _ refl refl c.in_ok-checked.ensures.workers

pub returns-in-Err-NoThread-clause-window : goal.returns-in-Err-NoThread-clause-window
returns-in-Err-NoThread-clause-window g c = not_told _ _ _ refl refl c.in_ok-checked.ensures.window
