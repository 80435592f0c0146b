use Rattle.std.proofs.Common.{ℕ, List, take}
use Rattle.std.specs.List.{flat_map}
use Rattle.report_diff.specs.Differences.{Adds, of_first}
use Rattle.report_diff.specs.Lines.{texts}
use Rattle.report_diff.specs.Repeats.{IsIndex}
use Rattle.report_diff.proofs.comparing.add_firsts.Given as goal

abbrev pub invariant-loop-line : goal.invariant-loop-line
invariant-loop-line l = (text : List (List ℕ)) → IsIndex l.second text
    → Adds l.initial.told l.told (flat_map (of_first l.second.end text) (texts (take l.line-index l.lines)))
