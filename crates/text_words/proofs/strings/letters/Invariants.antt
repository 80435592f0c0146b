use Rattle.std.proofs.Common.{length}
use Rattle.text_words.specs.Strings.{one_letter, up_to_mark}
use Rattle.text_words.proofs.Loops.{Left}
use Rattle.text_words.proofs.strings.letters.Given as goal

abbrev pub invariant-loop : goal.invariant-loop
invariant-loop l = record {
  read : Left (up_to_mark one_letter) (length l.text) l.counter (l.bytes.items, l.rest) (l.initial.bytes.items, l.text);
}
