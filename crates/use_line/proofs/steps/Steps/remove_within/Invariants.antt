use Rattle.std.proofs.Common.{◌≡◌, ℕ, true, false, length}
use Rattle.use_line.specs.Steps.{has_key, step_at}
use Rattle.use_line.specs.Spans.{within}
use Rattle.use_line.proofs.steps.Steps.remove_within.Given as goal

-- outside the range nothing has changed
abbrev pub invariant-loop-key : goal.invariant-loop-key
invariant-loop-key l = record {
  last : has_key l.self l.high ≡ true;
  outside : (b : ℕ) → within l.low l.high b ≡ false → step_at l.self b ≡ step_at l.fn.self b;
}

abbrev pub decreases-loop-key : goal.decreases-loop-key
decreases-loop-key l = length l.self
