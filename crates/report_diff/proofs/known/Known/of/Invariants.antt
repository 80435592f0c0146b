use Rattle.std.proofs.Common.{take}
use Rattle.report_diff.specs.Known.{IsKnown}
use Rattle.report_diff.specs.Lines.{texts}
use Rattle.report_diff.proofs.known.Known.of.Given as goal

abbrev pub invariant-loop-fact : goal.invariant-loop-fact
invariant-loop-fact l = IsKnown l.known (texts (take l.fact-index l.facts))
