use Rattle.std.proofs.Common.{refl, arith}
use Rattle.std.proofs.lemmas.Bool.Decides.{nat_tests}
use Rattle.report_diff.specs.Lines.{first_words, kind_of, line_kind}
use Rattle.report_diff.specs.Places.{falls, first_fall, line_place}
use Rattle.report_diff.proofs.passed.Passed.heading.Goals as goal

pub returns-clause-passed : goal.returns-clause-passed
unfolding first_fall falls line_place line_kind kind_of first_words
returns-clause-passed c = record { lines = refl; rises = λ place. grind (arith, nat_tests); orderly = refl; unended = refl }
