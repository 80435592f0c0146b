use Rattle.std.proofs.Common.{ℕ, List, take}
use Rattle.std.specs.List.{flat_map}
use Rattle.report_diff.specs.Differences.{Adds, of_second}
use Rattle.report_diff.specs.Lines.{texts}
use Rattle.report_diff.specs.Repeats.{IsIndex}
use Rattle.report_diff.proofs.comparing.add_seconds.Given as goal

abbrev pub invariant-loop-line : goal.invariant-loop-line
invariant-loop-line l = (text : List (List ℕ)) → IsIndex l.first text
    → Adds l.initial.told l.told (flat_map (of_second l.first.end text) (texts (take l.line-index l.lines)))
