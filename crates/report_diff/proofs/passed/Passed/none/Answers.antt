use Rattle.std.proofs.Common.{refl, arith}
use Rattle.std.proofs.lemmas.Bool.Decides.{nat_tests}
use Rattle.report_diff.specs.Places.{first_fall}
use Rattle.report_diff.proofs.passed.Passed.none.Goals as goal

pub returns : goal.returns
unfolding first_fall
returns c = record { lines = refl; rises = λ place. grind (arith, nat_tests); orderly = refl; unended = refl }
