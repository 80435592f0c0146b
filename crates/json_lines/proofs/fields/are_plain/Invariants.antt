use Rattle.std.proofs.Common.{◌≡◌, take}
use Rattle.std.specs.Prelude.{IsTrue}
use Rattle.json_lines.specs.Fields.{json_bytes}
use Rattle.json_lines.proofs.fields.are_plain.Given as goal

abbrev pub invariant-loop-byte : goal.invariant-loop-byte
invariant-loop-byte l = IsTrue l.plain → json_bytes (take l.byte-index l.bytes) ≡ take l.byte-index l.bytes
