use Rattle.std.proofs.Common.{◌<◌, ◌≤◌, ◌-◌}
use Rattle.report_diff.proofs.Words.{KnownTo}
use Rattle.report_diff.proofs.lines.first_words.Given as goal

abbrev pub invariant-loop-place : goal.invariant-loop-place
invariant-loop-place l = record {
  fewer : l.spaces < l.count;
  bound : l.spaces ≤ l.place;
  known : KnownTo l.count l.line l.place (l.count - l.spaces);
}
