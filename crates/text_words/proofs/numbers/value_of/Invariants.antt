use Rattle.std.proofs.Common.{◌≡◌, ◌≤◌, drop, map}
use Rattle.std.specs.Int.Digits.{number_from_digits_after}
use Rattle.text_words.specs.Numbers.{digit_value, value_of}
use Rattle.text_words.proofs.numbers.value_of.Given as goal

abbrev pub invariant-loop-byte : goal.invariant-loop-byte
invariant-loop-byte l = record {
  same : number_from_digits_after l.base l.value (map digit_value (drop l.byte-index l.digits)) ≡ value_of l.base l.digits;
  within : l.value ≤ l.last;
}
