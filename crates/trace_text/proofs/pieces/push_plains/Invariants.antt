use Rattle.std.proofs.Common.{◌≡◌, ◌-◌, ◌++◌, length}
use Rattle.text_forms.specs.Strings.{plain_pieces, plains}
use Rattle.trace_text.proofs.pieces.push_plains.Given as goal

abbrev pub invariant-loop-count : goal.invariant-loop-count
invariant-loop-count l = l.text.items ++ plains l.before (length l.bytes - l.count) l.rest ≡ l.initial.text.items ++ plain_pieces l.before l.bytes
