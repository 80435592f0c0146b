use Rattle.std.proofs.Common.{◌≡◌, ◌≤◌, ◌+◌, length}
use Rattle.std.specs.Prelude.{◌==◌}
use Rattle.std.specs.List.{slice_split}
use Rattle.text_words.specs.Numbers.{more_parts}
use Rattle.text_words.specs.Read.{taken}
use Rattle.text_words.proofs.numbers.parts_of.Given as goal

abbrev pub invariant-loop : goal.invariant-loop
invariant-loop l = record {
  read : taken (more_parts l.style l.bits) l.total (slice_split (λ b. b == 124) l.rest) ≡ taken (more_parts l.style l.bits) 0 (slice_split (λ b. b == 124) l.word);
  within : length l.rest + l.counter ≤ length l.word;
}
