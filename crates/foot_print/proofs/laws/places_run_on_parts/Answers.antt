use Rattle.foot_print.proofs.Parts.{run_on_parts}
use Rattle.foot_print.proofs.laws.places_run_on_parts.Goals as goal

pub returns : goal.returns
returns c = run_on_parts
