use Rattle.std.proofs.Common.{◌≡◌, ◌++◌, ℕ, List, take}
use Rattle.std.specs.List.{concat}
use Rattle.json_lines.specs.Lines.{json_lines}
use Rattle.replay_program.proofs.forms.json_of_pieces.Given as goal

-- the lines of the pieces so far that have ended are told
abbrev pub invariant-loop-piece : goal.invariant-loop-piece
invariant-loop-piece l = (more : List ℕ) → json_lines (concat (take l.piece-index l.piece-items) ++ more) ≡ l.json.items ++ json_lines (l.lines.line.items ++ more)
