use Rattle.std.proofs.Common.{◌≡◌, ℕ, ◌+◌, ◌-◌, ◌/◌, ◌<◌, ◌≤◌}
use Rattle.extent_bytes.specs.Pages.{byte_at}
use Rattle.extent_bytes.proofs.moving.moved.Given as goal

-- the bytes of the pages before `at` are moved, and behind them are zeros
abbrev pub invariant-loop-number : goal.invariant-loop-number
invariant-loop-number l = record {
  first : l.start / 4096 ≤ l.at;
  within : l.at ≤ l.last;
  done : (i : ℕ) → i < l.end - l.start → (l.start + i) / 4096 < l.at → byte_at l.moved (l.target + i) ≡ byte_at l.pages (l.start + i);
  blank : (i : ℕ) → l.at ≤ (l.start + i) / 4096 → byte_at l.moved (l.target + i) ≡ 0;
}

abbrev pub decreases-loop-number : goal.decreases-loop-number
decreases-loop-number l = l.last - l.at
