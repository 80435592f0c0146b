use Rattle.std.proofs.Common.{length}
use Rattle.text_words.specs.Strings.{one_byte, up_to_mark}
use Rattle.text_words.proofs.Loops.{Left}
use Rattle.text_words.proofs.strings.digits.Given as goal

abbrev pub invariant-loop : goal.invariant-loop
invariant-loop l = record {
  read : Left (up_to_mark one_byte) (length l.text) l.counter (l.bytes.items, l.rest) (l.initial.bytes.items, l.text);
}
