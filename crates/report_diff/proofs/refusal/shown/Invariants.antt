use Rattle.std.proofs.Common.{◌≡◌, map, take}
use Rattle.report_diff.specs.Refusals.{shown_byte}
use Rattle.report_diff.proofs.refusal.shown.Given as goal

abbrev pub invariant-loop-byte : goal.invariant-loop-byte
invariant-loop-byte l = l.text.bytes ≡ map shown_byte (take l.byte-index l.byte-items)
