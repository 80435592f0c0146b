use Rattle.std.proofs.Common.{◌≡◌, ◌≤◌, ◌+◌, length}
use Rattle.std.specs.Prelude.{◌==◌}
use Rattle.std.specs.List.{slice_split}
use Rattle.text_words.specs.Read.{taken}
use Rattle.text_trace.specs.Entry.{more_lengths}
use Rattle.text_trace.proofs.entry.push_lengths.Given as goal

abbrev pub invariant-loop : goal.invariant-loop
invariant-loop l = record {
  read : taken more_lengths (l.lengths.items, l.left) (slice_split (λ b. b == 44) l.rest) ≡ taken more_lengths (l.initial.lengths.items, l.fn.left) (slice_split (λ b. b == 44) l.inside);
  within : length l.rest + l.counter ≤ length l.inside;
}
