use Rattle.std.proofs.Common.{◌≡◌, ℕ, ◌<◌, false}
use Rattle.std.specs.Str.{bytes_eq}
use Rattle.trace_text.specs.Names.{flag_name}
use Rattle.text_words.proofs.numbers.flag_of.Given as goal

abbrev pub invariant-loop-bit : goal.invariant-loop-bit
invariant-loop-bit l = (k : ℕ) → k < l.bit → bytes_eq (flag_name l.set k) l.word ≡ false
