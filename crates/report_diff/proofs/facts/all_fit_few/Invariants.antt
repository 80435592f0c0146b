use Rattle.std.proofs.Common.{◌≡◌, true, take}
use Rattle.std.specs.List.{list_all}
use Rattle.report_diff.specs.Differences.{fits}
use Rattle.report_diff.specs.Lines.{texts}
use Rattle.report_diff.proofs.facts.all_fit_few.Given as goal

abbrev pub invariant-loop-fact : goal.invariant-loop-fact
invariant-loop-fact l = list_all (fits (texts l.others)) (texts (take l.fact-index l.facts)) ≡ true
