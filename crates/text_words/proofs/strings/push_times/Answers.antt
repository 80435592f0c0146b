use Rattle.std.proofs.Common.{arith}
use Rattle.std.proofs.lemmas.Grind.{common_steps}
use Rattle.text_words.proofs.Repeats.{one_is, repeat_none, repeat_more}
use Rattle.text_words.proofs.strings.push_times.Goals as goal

pub returns-then-len : goal.returns-then-len
returns-then-len c = grind (arith, common_steps, one_is c.args.bytes.now c.args.count c.if-bytes-eq1.true)

pub returns-then-is_empty : goal.returns-then-is_empty
returns-then-is_empty c = grind (arith, common_steps, repeat_none c.args.count c.args.bytes.now)

pub loop-preserved : goal.loop-preserved
loop-preserved c = grind (arith, common_steps, repeat_more c.loop.counter c.args.bytes.now)
