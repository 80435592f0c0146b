use Rattle.std.proofs.Common.{◌≡◌, not, take}
use Rattle.std.specs.Prelude.{filter}
use Rattle.report_diff.specs.Lines.{is_time, texts}
use Rattle.report_diff.proofs.facts.without_times.Given as goal

abbrev pub invariant-loop-word : goal.invariant-loop-word
invariant-loop-word l = texts l.facts.items ≡ filter (λ word. not (is_time word)) (texts (take l.word-index l.words))
