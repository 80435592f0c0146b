use Rattle.std.proofs.Common.{◌≡◌, drop}
use Rattle.std.specs.Prelude.{nat_lt}
use Rattle.std.specs.List.{list_all}
use Rattle.text_words.specs.Numbers.{digit_value}
use Rattle.text_words.proofs.numbers.are_digits.Given as goal

abbrev pub invariant-loop-digit : goal.invariant-loop-digit
invariant-loop-digit l = list_all (λ b. nat_lt (digit_value b) l.base) l.digits ≡ list_all (λ b. nat_lt (digit_value b) l.base) (drop l.digit-index l.digits)
