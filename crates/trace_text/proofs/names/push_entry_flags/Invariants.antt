use Rattle.std.proofs.Common.{◌≡◌, ◌-◌, ◌++◌}
use Rattle.trace_text.specs.Names.{entry_flags, entry_flags_from}
use Rattle.trace_text.proofs.names.push_entry_flags.Given as goal

abbrev pub invariant-loop-bit : goal.invariant-loop-bit
invariant-loop-bit l = l.text.items ++ entry_flags_from (8 - l.bit) l.bit l.rest ≡ l.initial.text.items ++ entry_flags l.flags
