use Rattle.std.proofs.Common.{◌≡◌, ℕ, ◌<◌, false}
use Rattle.std.specs.Str.{bytes_eq}
use Rattle.trace_text.specs.Names.{entry_flag_name}
use Rattle.text_trace.proofs.fields.entry_flag_of.Given as goal

abbrev pub invariant-loop-bit : goal.invariant-loop-bit
invariant-loop-bit l = (k : ℕ) → k < l.bit → bytes_eq (entry_flag_name k) l.word ≡ false
