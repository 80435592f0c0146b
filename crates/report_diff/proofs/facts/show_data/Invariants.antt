use Rattle.std.proofs.Common.{◌≡◌, false, take}
use Rattle.std.specs.List.{list_any}
use Rattle.report_diff.specs.Differences.{is_whole_data}
use Rattle.report_diff.specs.Lines.{texts}
use Rattle.report_diff.proofs.facts.show_data.Given as goal

abbrev pub invariant-loop-fact : goal.invariant-loop-fact
invariant-loop-fact l = list_any is_whole_data (texts (take l.fact-index l.facts)) ≡ false
