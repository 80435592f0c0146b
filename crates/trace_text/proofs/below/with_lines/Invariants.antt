use Rattle.std.proofs.Common.{◌≡◌, take}
use Rattle.std.specs.List.{flat_map}
use Rattle.trace_text.specs.Below.{line_with_entry, texts}
use Rattle.trace_text.proofs.below.with_lines.Given as goal

abbrev pub invariant-loop-line : goal.invariant-loop-line
invariant-loop-line g l = l.shown.items ≡ flat_map (line_with_entry (g.T.Placed.lines l.trace)) (texts (take l.line-index l.line-items))
