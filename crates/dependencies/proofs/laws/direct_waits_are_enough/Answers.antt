use Rattle.dependencies.proofs.Rule.{waits_are_dependencies, waits_suffice}
use Rattle.dependencies.proofs.laws.direct_waits_are_enough.Goals as goal

pub returns : goal.returns
returns c = record { each = waits_are_dependencies; suffice = waits_suffice }
