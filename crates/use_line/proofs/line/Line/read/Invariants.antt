use Rattle.std.proofs.Common.{◌≤◌, ◌-◌, ◌≡◌, ◌⊎◌, ℕ}
use Rattle.use_line.specs.Known.{HasRead, known_at}
use Rattle.use_line.specs.Spans.{within}
use Rattle.use_line.proofs.line.Line.read.Given as goal

-- the numbers so far have been read
abbrev pub invariant-loop-number : goal.invariant-loop-number
invariant-loop-number l = record {
  from : l.low ≤ l.number;
  to : (l.number ≤ l.high) ⊎ (l.number ≡ l.low);
  read : (b : ℕ) → HasRead (known_at l.fn.self b) (known_at (record { spots = l.self-inside.spots; ranges = l.self-inside.ranges }) b) (within l.low l.number b) l.place;
}

abbrev pub decreases-loop-number : goal.decreases-loop-number
decreases-loop-number l = l.high - l.number
