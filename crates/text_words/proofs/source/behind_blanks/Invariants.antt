use Rattle.std.proofs.Common.{◌≡◌, ◌≤◌, length, drop, cond, Some, None}
use Rattle.text_words.specs.Words.{behind_blanks_from}
use Rattle.text_words.proofs.source.behind_blanks.Given as goal

abbrev pub invariant-loop-place : goal.invariant-loop-place
invariant-loop-place l = record {
  within : l.slash ≤ length l.text;
  left : behind_blanks_from None l.text ≡ behind_blanks_from (cond l.inside (Some (drop l.slash l.text)) None) (drop l.place l.text);
}
