use Rattle.std.proofs.Common.{◌≡◌, ◌≤◌, ◌<◌, ◌+◌, ◌*◌, ◌^◌, ◌%◌, ℕ, length, true, refl, ap, lit≤, arith}
use Rattle.std.proofs.lemmas.Grind.{common_steps}
use Rattle.std.specs.Str.{bytes_eq}
use Rattle.trace_text.specs.Names.{entry_flag_name, entry_flag_names}
use Rattle.text_words.proofs.Named.{first_is, no_word, none_is, some}
use Rattle.text_trace.specs.Fields.{entry_flag_of}
use Rattle.text_trace.proofs.fields.entry_flag_of.Goals as goal

few : length entry_flag_names ≤ 8
unfolding entry_flag_names
few = lit≤ tt

bit_is : (k : ℕ) → k < 8 → 1 * 2 ^ k % 256 ≡ 2 ^ (0 + k)
bit_is k lt = grind (arith, common_steps)

pub returns-then-eq : goal.returns-then-eq
unfolding entry_flag_of entry_flag_name
returns-then-eq c =
    let hit : bytes_eq (entry_flag_name c.loop-bit.bit) c.args.word.now ≡ true = cc (c.if-eq.ensures, c.as_bytes.ensures.value, c.entry_flag_name.ensures) in
    let found = first_is (λ name. bytes_eq name c.args.word.now) entry_flag_names 0 c.loop-bit.bit (no_word c.args.word.now c.if-is_empty.ensures) hit c.loop-bit.invariant in
    rw (← c.if-is_empty.ensures, found) (ap some (bit_is c.loop-bit.bit c.loop-bit-test.true))

pub returns : goal.returns
unfolding entry_flag_of entry_flag_name
returns c =
    rw (← c.if-is_empty.ensures, none_is (λ name. bytes_eq name c.args.word.now) entry_flag_names 0 (λ k lt. c.loop-bit.invariant k (omega (arith, few)))) refl
