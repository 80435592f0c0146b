use Rattle.std.proofs.Common.{◌≡◌, take}
use Rattle.std.specs.Prelude.{IsTrue}
use Rattle.replay_report.specs.Report.{escaped}
use Rattle.replay_report.proofs.escaping.are_visible.Given as goal

abbrev pub invariant-loop-byte : goal.invariant-loop-byte
invariant-loop-byte l = IsTrue l.visible → escaped (take l.byte-index l.bytes) ≡ take l.byte-index l.bytes
