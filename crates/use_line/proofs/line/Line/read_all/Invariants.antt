use Rattle.std.proofs.Common.{ℕ, take}
use Rattle.use_line.specs.Known.{HasRead, known_at, read_by}
use Rattle.use_line.proofs.line.Line.read_all.Given as goal

-- what the ranges so far have has been read
abbrev pub invariant-loop-span : goal.invariant-loop-span
invariant-loop-span l = (b : ℕ) → HasRead (known_at l.fn.self b) (known_at l.self b) (read_by (take l.span-index l.spans) b) l.place
