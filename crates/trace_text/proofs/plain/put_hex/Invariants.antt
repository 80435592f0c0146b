use Rattle.std.proofs.Common.{◌≡◌, ◌*◌, take}
use Rattle.std.specs.List.{flat_map}
use Rattle.text_forms.specs.Strings.{hex_byte}
use Rattle.trace_text.proofs.plain.put_hex.Given as goal

abbrev pub invariant-loop-i : goal.invariant-loop-i
invariant-loop-i l = take (2 * l.i) l.room ≡ flat_map hex_byte (take l.i l.bytes)
