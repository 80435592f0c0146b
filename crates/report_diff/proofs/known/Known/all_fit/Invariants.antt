use Rattle.std.proofs.Common.{◌≡◌, ℕ, List, true, take}
use Rattle.std.specs.List.{list_all}
use Rattle.report_diff.specs.Differences.{fits}
use Rattle.report_diff.specs.Known.{IsKnown}
use Rattle.report_diff.specs.Lines.{texts}
use Rattle.report_diff.proofs.known.Known.all_fit.Given as goal

abbrev pub invariant-loop-fact : goal.invariant-loop-fact
invariant-loop-fact l = (facts : List (List ℕ)) → IsKnown l.self facts → list_all (fits facts) (texts (take l.fact-index l.others)) ≡ true
