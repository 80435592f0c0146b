use Rattle.std.proofs.Common.{◌≡◌, ℕ, take, if◌then◌else◌}
use Rattle.use_line.specs.Known.{known_at, written_at}
use Rattle.use_line.specs.Spans.{written_by}
use Rattle.use_line.proofs.line.Line.write_all.Given as goal

-- what the ranges so far have has been written
abbrev pub invariant-loop-span : goal.invariant-loop-span
invariant-loop-span l = (b : ℕ) → known_at l.self b ≡ (if written_by (take l.span-index l.spans) b then written_at l.place else known_at l.fn.self b)
