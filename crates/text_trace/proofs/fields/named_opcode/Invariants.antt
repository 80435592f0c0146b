use Rattle.std.proofs.Common.{◌≡◌, ℕ, ◌<◌, false}
use Rattle.std.specs.Str.{bytes_eq}
use Rattle.text_forms.specs.Names.{opcode_name}
use Rattle.text_trace.proofs.fields.named_opcode.Given as goal

abbrev pub invariant-loop-opcode : goal.invariant-loop-opcode
invariant-loop-opcode l = (k : ℕ) → k < l.opcode → bytes_eq (opcode_name k) l.word ≡ false
