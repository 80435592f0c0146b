use Rattle.std.proofs.Common.{◌≡◌, ℕ, true, false, take}
use Rattle.use_line.specs.Spans.{within, written_by}
use Rattle.use_line.proofs.ranges.is_written_within.Given as goal

-- none of the ranges so far writes there
abbrev pub invariant-loop-span : goal.invariant-loop-span
invariant-loop-span l = (b : ℕ) → within l.low l.high b ≡ true → written_by (take l.span-index l.spans) b ≡ false
