use Rattle.std.proofs.Common.{[], length}
use Rattle.text_words.specs.Paths.{more_path}
use Rattle.text_words.specs.Read.{word_of}
use Rattle.text_words.proofs.Loops.{Left}
use Rattle.text_words.proofs.paths.letters_of.Given as goal

abbrev pub invariant-loop : goal.invariant-loop
invariant-loop l = record {
  read : Left (more_path (word_of l.word)) (length l.word.bytes.now) l.counter (l.path.items, l.rest) ([], l.word.bytes.now);
}
