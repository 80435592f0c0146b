use Rattle.std.proofs.Common.{◌≡◌, ◌-◌, ◌++◌}
use Rattle.trace_text.specs.Names.{flags_text, flags_from}
use Rattle.trace_text.proofs.names.push_flags.Given as goal

abbrev pub invariant-loop-bit : goal.invariant-loop-bit
invariant-loop-bit l = l.text.items ++ flags_from l.set (32 - l.bit) l.bit l.some l.rest ≡ l.initial.text.items ++ flags_text l.set l.flags
