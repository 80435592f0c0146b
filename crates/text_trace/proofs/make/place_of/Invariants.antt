use Rattle.std.proofs.Common.{◌≡◌, ◌≤◌, ◌+◌, drop}
use Rattle.text_trace.specs.Places.{line_from, column_from}
use Rattle.text_trace.proofs.make.place_of.Given as goal

abbrev pub invariant-loop-byte : goal.invariant-loop-byte
invariant-loop-byte l = record {
  line : line_from 1 l.before ≡ line_from l.line (drop l.byte-index l.before);
  column : column_from 1 l.before ≡ column_from l.column (drop l.byte-index l.before);
  lines : l.line ≤ l.byte-index + 1;
  columns : l.column ≤ l.byte-index + 1;
}
