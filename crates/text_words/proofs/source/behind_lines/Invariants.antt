use Rattle.std.proofs.Common.{◌≡◌, false, drop}
use Rattle.text_words.specs.Words.{behind_lines_from}
use Rattle.text_words.proofs.source.behind_lines.Given as goal

abbrev pub invariant-loop-place : goal.invariant-loop-place
invariant-loop-place l = behind_lines_from false l.text ≡ behind_lines_from l.inside (drop l.place l.text)
