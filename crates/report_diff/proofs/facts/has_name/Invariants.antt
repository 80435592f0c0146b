use Rattle.std.proofs.Common.{◌≡◌, false, take}
use Rattle.report_diff.specs.Differences.{has_name}
use Rattle.report_diff.specs.Lines.{texts}
use Rattle.report_diff.proofs.facts.has_name.Given as goal

abbrev pub invariant-loop-fact : goal.invariant-loop-fact
invariant-loop-fact l = has_name l.name (texts (take l.fact-index l.facts)) ≡ false
