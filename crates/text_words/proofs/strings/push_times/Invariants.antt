use Rattle.std.proofs.Common.{◌≡◌, ◌++◌}
use Rattle.std.specs.List.{repeat}
use Rattle.text_words.proofs.strings.push_times.Given as goal

abbrev pub invariant-loop : goal.invariant-loop
invariant-loop l = record {
  added : l.out.items ≡ l.initial.out.items ++ repeat l.counter l.bytes;
}
