use Rattle.std.proofs.Common.{◌≡◌, ◌≤◌, ◌-◌, ◌++◌, [], length, take, drop}
use Rattle.text_forms.specs.Strings.{pieces}
use Rattle.trace_text.proofs.pieces.push_pieces.Given as goal

abbrev pub invariant-loop-run : goal.invariant-loop-run
invariant-loop-run l = record {
  ordered : l.start ≤ l.run;
  within : l.run ≤ length l.bytes;
  left : l.text.items ++ pieces l.before (take (l.run - l.start) (drop l.start l.bytes)) [] (drop l.run l.bytes) ≡ l.initial.text.items ++ pieces l.before [] [] l.bytes;
}

abbrev pub decreases-loop-run : goal.decreases-loop-run
decreases-loop-run l = length l.bytes - l.run
