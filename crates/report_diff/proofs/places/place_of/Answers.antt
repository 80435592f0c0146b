use Rattle.std.proofs.Common.{◌≡◌, length, sym, ◌∙◌, arith}
use Rattle.std.proofs.lemmas.Bool.Decides.{nat_tests}
use Rattle.report_diff.proofs.PlaceLemmas.{empty_is_none, place_is_number, zero_is_none}
use Rattle.report_diff.proofs.places.place_of.Goals.{else-word-eq48-via-then-word-eq48+else-word-gt1, else-word-eq48-via-else-word-eq48}
use Rattle.report_diff.proofs.places.place_of.Goals as goal

pub returns-then-is_empty-clause-value : goal.returns-then-is_empty-clause-value
returns-then-is_empty-clause-value c = let none : length c.args.word.now ≡ 0 = grind (arith, nat_tests) in sym (empty_is_none c.args.word.now none)

pub returns-then-word-gt1-clause-value : goal.returns-then-word-gt1-clause-value
returns-then-word-gt1-clause-value c = sym (zero_is_none c.args.word.now c.if-word-eq48.true c.if-word-gt1.true)

pub returns-clause-value : goal.returns-clause-value
returns-clause-value c = c.number_of.ensures.value ∙ sym (place_is_number c.args.word.now (grind (arith, nat_tests)) (λ zero. elim c.else-word-eq48.branch [
  | else-word-eq48-via-then-word-eq48+else-word-gt1 w ↦ grind (arith, nat_tests)
  | else-word-eq48-via-else-word-eq48 w ↦ absurd (w.if-word-eq48.false zero)
]))
