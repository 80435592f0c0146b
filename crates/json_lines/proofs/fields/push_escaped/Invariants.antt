use Rattle.std.proofs.Common.{◌≡◌, ◌++◌, take}
use Rattle.json_lines.specs.Fields.{json_bytes}
use Rattle.json_lines.proofs.fields.push_escaped.Given as goal

abbrev pub invariant-loop-byte : goal.invariant-loop-byte
invariant-loop-byte l = l.text.items ≡ l.initial.text.items ++ json_bytes (take l.byte-index l.bytes)
