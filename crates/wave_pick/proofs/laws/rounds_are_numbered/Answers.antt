use Rattle.wave_pick.proofs.Numbers.{rounds_numbered, rounds_rise}
use Rattle.wave_pick.proofs.laws.rounds_are_numbered.Goals as goal

pub returns : goal.returns
returns c = record { numbered = rounds_numbered; rise = rounds_rise }
