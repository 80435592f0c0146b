use Rattle.std.proofs.Common.{[]}
use Rattle.text_words.specs.Strings.{more_strings}
use Rattle.text_words.specs.Read.{rest_of}
use Rattle.text_words.proofs.Loops.{Left}
use Rattle.text_words.proofs.strings.strings_of.Given as goal

abbrev pub invariant-loop : goal.invariant-loop
invariant-loop l = record {
  read : Left more_strings l.end l.counter (l.bytes.items, rest_of l.source) ([], rest_of l.fn.source);
}
