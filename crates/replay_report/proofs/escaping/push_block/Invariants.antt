use Rattle.std.proofs.Common.{◌≡◌, ◌++◌, take}
use Rattle.replay_report.specs.Report.{escaped}
use Rattle.replay_report.proofs.escaping.push_block.Given as goal

abbrev pub invariant-loop-byte : goal.invariant-loop-byte
invariant-loop-byte l = l.text.items ≡ l.initial.text.items ++ escaped (take l.byte-index l.bytes)
