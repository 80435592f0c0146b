use Rattle.std.proofs.lemmas.Result.{IfOk-from_err}
use Rattle.replay_core.proofs.Faults.{given_on, went_well}
use Rattle.replay_core.proofs.round_log.logged.Goals as goal

pub returns-in_err-rounds-clause-log : goal.returns-in_err-rounds-clause-log
returns-in_err-rounds-clause-log g c = IfOk-from_err _ _ c.from_residual.ensures.0

pub returns-in_err-rounds-clause-alone : goal.returns-in_err-rounds-clause-alone
returns-in_err-rounds-clause-alone g c = given_on _ _ _ c.from_residual.ensures.1 c.in_err-rounds.ensures.alone

pub returns-in_err-waits-clause-log : goal.returns-in_err-waits-clause-log
returns-in_err-waits-clause-log g c = IfOk-from_err _ _ c.from_residual-in_err-waits.ensures.0

pub returns-in_err-waits-clause-alone : goal.returns-in_err-waits-clause-alone
returns-in_err-waits-clause-alone g c = given_on _ _ _ c.from_residual-in_err-waits.ensures.1 c.in_err-waits.ensures.alone

pub returns-clause-alone : goal.returns-clause-alone
returns-clause-alone g c = went_well _ _
