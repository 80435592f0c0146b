use Rattle.wave_pick.proofs.Ends.{runs_as_the_model}
use Rattle.wave_pick.proofs.laws.sequential_run_is_the_models.Goals as goal

pub returns : goal.returns
returns c = runs_as_the_model
