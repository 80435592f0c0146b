use Rattle.std.proofs.Common.{◌≡◌, ◌++◌, take}
use Rattle.round_report.specs.Rounds.{quoted}
use Rattle.round_report.proofs.graph.push_quoted.Given as goal

abbrev pub invariant-loop-byte : goal.invariant-loop-byte
invariant-loop-byte l = l.text.items ≡ l.initial.text.items ++ quoted (take l.byte-index l.item)
