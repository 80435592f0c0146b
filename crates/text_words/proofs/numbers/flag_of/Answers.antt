use Rattle.std.proofs.Common.{◌≡◌, true, refl, ap, arith}
use Rattle.std.specs.Str.{bytes_eq}
use Rattle.trace_text.specs.Names.{flag_name, flag_names}
use Rattle.text_words.specs.Numbers.{flag_of}
use Rattle.text_words.proofs.Named.{bit_is, few_names, first_is, no_word, none_is, some}
use Rattle.text_words.proofs.numbers.flag_of.Goals as goal

pub returns-then-eq : goal.returns-then-eq
unfolding flag_of flag_name
returns-then-eq c =
    let hit : bytes_eq (flag_name c.args.set c.loop-bit.bit) c.args.word.now ≡ true = cc (c.if-eq.ensures, c.as_bytes.ensures.value, c.flag_name.ensures) in
    let found = first_is (λ name. bytes_eq name c.args.word.now) (flag_names c.args.set) 0 c.loop-bit.bit (no_word c.args.word.now c.if-is_empty.ensures) hit c.loop-bit.invariant in
    rw (← c.if-is_empty.ensures, found) (ap some (bit_is c.loop-bit.bit c.loop-bit-test.true))

pub returns : goal.returns
unfolding flag_of flag_name
returns c =
    rw (← c.if-is_empty.ensures, none_is (λ name. bytes_eq name c.args.word.now) (flag_names c.args.set) 0 (λ k lt. c.loop-bit.invariant k (omega (arith, few_names c.args.set)))) refl
