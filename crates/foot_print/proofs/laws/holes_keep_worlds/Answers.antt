use Rattle.foot_print.proofs.Parts.{holes_keep}
use Rattle.foot_print.proofs.laws.holes_keep_worlds.Goals as goal

pub returns : goal.returns
returns c = holes_keep
