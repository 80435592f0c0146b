use Rattle.std.proofs.Common.{refl}
use Rattle.report_diff.specs.Differences.{count}
use Rattle.report_diff.proofs.counting.Tally.none.Goals as goal

pub returns : goal.returns
unfolding count
returns c = λ section. record { equal = refl; different = refl; unchecked = refl; given = refl }
