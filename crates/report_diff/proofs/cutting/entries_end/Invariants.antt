use Rattle.std.proofs.Common.{◌≡◌, max, take}
use Rattle.report_diff.specs.Inputs.{entries_end}
use Rattle.report_diff.specs.Lines.{texts}
use Rattle.report_diff.proofs.cutting.entries_end.Given as goal

abbrev pub invariant-loop-line : goal.invariant-loop-line
invariant-loop-line l = l.end ≡ max l.next (entries_end (texts (take l.line-index l.report)))
