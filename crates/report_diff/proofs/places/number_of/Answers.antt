use Rattle.std.proofs.Common.{◌≡◌, ◌<◌, ◌≤◌, ◌+◌, ◌^◌, true, get_or, refl, sym, ◌∙◌, rules, arith}
use Rattle.std.proofs.lemmas.Bool.{le-ltb, lt-ltb}
use Rattle.std.proofs.lemmas.Int.Digits.{digits_value_more}
use Rattle.std.proofs.lemmas.List.{take_all}
use Rattle.std.proofs.lemmas.List.Folds.{list_all_at, list_all_more}
use Rattle.std.proofs.lemmas.Str.{digit_value_digit}
use Rattle.std.proofs.lemmas.Str.Parse.{digits_value-take-le}
use Rattle.std.specs.Char.{is_ascii_digit}
use Rattle.std.specs.List.{list_all}
use Rattle.std.specs.Str.Parse.{digits_value}
use Rattle.report_diff.proofs.places.number_of.Goals as goal

pub returns-then-not-is_ascii_digit-clause-value : goal.returns-then-not-is_ascii_digit-clause-value
returns-then-not-is_ascii_digit-clause-value c =
    let other = list_all_at is_ascii_digit c.args.digits.now c.loop-byte.byte-index 0 c.loop-byte-test.true (sym c.is_ascii_digit.ensures.value ∙ c.if-not-is_ascii_digit.true) in
    rw other refl

pub returns-then-number-gt-MOST-clause-value : goal.returns-then-number-gt-MOST-clause-value
returns-then-number-gt-MOST-clause-value c =
    let more = digits_value_more 10 c.args.digits.now c.loop-byte.byte-index c.loop-byte-test.true in
    let digit = digit_value_digit (get_or c.args.digits.now c.loop-byte.byte-index 0) (search rules) in
    let part = digits_value-take-le 10 c.args.digits.now (c.loop-byte.byte-index + 1) (omega arith) in
    let great : 2 ^ 32 ≤ digits_value 10 c.args.digits.now = omega (arith, more, digit, part, c.loop-byte.invariant.same) in
    rw (le-ltb (digits_value 10 c.args.digits.now) (2 ^ 32) great) (search rules)

pub loop-byte-preserved : goal.loop-byte-preserved
loop-byte-preserved c =
    let more = digits_value_more 10 c.args.digits.now c.loop-byte.byte-index c.loop-byte-test.true in
    let digit = digit_value_digit (get_or c.args.digits.now c.loop-byte.byte-index 0) (search rules) in
    record {
      same = omega (arith, more, digit, c.loop-byte.invariant.same);
      small = omega arith;
      digits = list_all_more is_ascii_digit c.args.digits.now c.loop-byte.byte-index 0 c.loop-byte-test.true ∙ rw (c.loop-byte.invariant.digits, ← c.is_ascii_digit.ensures.value) c.if-not-is_ascii_digit.false;
    }

pub returns-clause-value : goal.returns-clause-value
returns-clause-value c =
    let all = take_all c.loop-byte.byte-index c.args.digits.now (omega arith) in
    let digits : list_all is_ascii_digit c.args.digits.now ≡ true = rw all at c.loop-byte.invariant.digits in
    let same : c.loop-byte.number ≡ digits_value 10 c.args.digits.now = rw all at c.loop-byte.invariant.same in
    let small : digits_value 10 c.args.digits.now < 2 ^ 32 = rw same at c.loop-byte.invariant.small in
    rw (digits, lt-ltb (digits_value 10 c.args.digits.now) (2 ^ 32) small, same) refl
