use Rattle.std.proofs.Common.{◌≡◌, ◌==◌, ◌++◌, ℕ, List, length}
use Rattle.std.specs.List.{position_or_len}
use Rattle.json_lines.specs.Lines.{json_lines}
use Rattle.json_lines.proofs.stream.JsonLines.push.Given as goal

abbrev pub invariant-loop-end : goal.invariant-loop-end
invariant-loop-end l = record {
  found : l.end ≡ position_or_len (λ b. b == 10) l.rest;
  left : (more : List ℕ) → l.initial.json.items ++ json_lines (l.initial.self.line.items ++ (l.piece ++ more)) ≡ l.json.items ++ json_lines (l.self.line.items ++ (l.rest ++ more));
}

abbrev pub decreases-loop-end : goal.decreases-loop-end
decreases-loop-end l = length l.rest
