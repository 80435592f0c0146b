use Rattle.std.proofs.Common.{◌≡◌, ℕ, List, true, take}
use Rattle.report_diff.specs.Known.{IsKnown}
use Rattle.report_diff.specs.Lines.{texts}
use Rattle.report_diff.specs.Repeats.{all_among}
use Rattle.report_diff.proofs.known.Known.has_all.Given as goal

abbrev pub invariant-loop-fact : goal.invariant-loop-fact
invariant-loop-fact l = (facts : List (List ℕ)) → IsKnown l.self facts → all_among (texts (take l.fact-index l.others)) facts ≡ true
