use Rattle.std.proofs.Common.{◌≡◌, ◌≤◌, take}
use Rattle.std.specs.List.{count_by}
use Rattle.text_forms.specs.Strings.{is_hidden}
use Rattle.trace_text.proofs.plain.hidden_count.Given as goal

abbrev pub invariant-loop-byte : goal.invariant-loop-byte
invariant-loop-byte l = record { is : l.count ≡ count_by is_hidden (take l.byte-index l.bytes); few : l.count ≤ l.byte-index }
