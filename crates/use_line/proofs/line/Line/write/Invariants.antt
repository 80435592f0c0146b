use Rattle.std.proofs.Common.{◌≤◌, ◌-◌, ◌≡◌, ◌⊎◌, ℕ, if◌then◌else◌}
use Rattle.use_line.specs.Known.{known_at, written_at}
use Rattle.use_line.specs.Spans.{within}
use Rattle.use_line.proofs.line.Line.write.Given as goal

-- the numbers so far have been written
abbrev pub invariant-loop-number : goal.invariant-loop-number
invariant-loop-number l = record {
  from : l.low ≤ l.number;
  to : (l.number ≤ l.high) ⊎ (l.number ≡ l.low);
  written : (b : ℕ) → known_at (record { spots = l.self-inside.spots; ranges = l.self-inside.ranges }) b ≡ (if within l.low l.number b then written_at l.place else known_at l.fn.self b);
}

abbrev pub decreases-loop-number : goal.decreases-loop-number
decreases-loop-number l = l.high - l.number
