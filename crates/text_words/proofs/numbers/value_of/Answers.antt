use Rattle.std.proofs.Common.{arith}
use Rattle.std.proofs.lemmas.Grind.{common_steps}
use Rattle.text_words.specs.Numbers.{value_of}
use Rattle.text_words.proofs.Values.{is_above}
use Rattle.text_words.proofs.numbers.value_of.Goals as goal

pub returns-in_err-checked_mul : goal.returns-in_err-checked_mul
returns-in_err-checked_mul c =
    let over = is_above c.args.base c.loop-byte.value c.args.digits.now c.loop-byte.byte-index (value_of c.args.base c.args.digits.now) c.args.last (omega arith) c.loop-byte-test.true c.loop-byte.invariant.same in
    grind (arith, common_steps, over)

pub returns-in_err-next : goal.returns-in_err-next
returns-in_err-next c =
    let over = is_above c.args.base c.loop-byte.value c.args.digits.now c.loop-byte.byte-index (value_of c.args.base c.args.digits.now) c.args.last (omega arith) c.loop-byte-test.true c.loop-byte.invariant.same in
    grind (arith, common_steps, over)

pub returns-then-next-last : goal.returns-then-next-last
returns-then-next-last c =
    let over = is_above c.args.base c.loop-byte.value c.args.digits.now c.loop-byte.byte-index (value_of c.args.base c.args.digits.now) c.args.last (omega arith) c.loop-byte-test.true c.loop-byte.invariant.same in
    grind (arith, common_steps, over)
