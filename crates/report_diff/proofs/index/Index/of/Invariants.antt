use Rattle.std.proofs.Common.{◌≡◌, None, take}
use Rattle.report_diff.specs.Lines.{texts}
use Rattle.report_diff.specs.Repeats.{IsIndex, otherwise}
use Rattle.report_diff.proofs.index.Index.of.Given as goal

abbrev pub invariant-loop-place : goal.invariant-loop-place
invariant-loop-place l = record {
  index : IsIndex l.index (texts (take l.place l.lines));
  end : l.index.end ≡ l.fn.end;
  agrees : otherwise (texts (take l.place l.lines)) ≡ None;
}
