use Rattle.foot_print.proofs.Cover.{all_covered}
use Rattle.foot_print.proofs.laws.footprints_cover.Goals as goal

pub returns : goal.returns
returns c = all_covered
