use Rattle.std.proofs.Common.{◌≡◌, ◌+◌, drop}
use Rattle.std.specs.List.{position_or_len}
use Rattle.text_words.specs.Words.{is_gap}
use Rattle.text_words.proofs.source.word_len.Given as goal

abbrev pub invariant-loop-place : goal.invariant-loop-place
invariant-loop-place l = position_or_len is_gap l.text ≡ l.place + position_or_len is_gap (drop l.place l.text)
