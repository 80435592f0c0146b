use Rattle.std.proofs.Common.{◌≡◌, ℕ, ◌+◌, ◌-◌, ◌/◌, ◌<◌, ◌≤◌}
use Rattle.std.specs.Prelude.{IsSome}
use Rattle.extent_bytes.specs.Pages.{page_of, byte_at}
use Rattle.extent_bytes.proofs.comparing.zeros_ahead.Given as goal

-- the stored pages before `at` have zeros alone
abbrev pub invariant-loop-number : goal.invariant-loop-number
invariant-loop-number l = record {
  first : l.start / 4096 ≤ l.at;
  within : l.at ≤ l.last;
  zeros : (i : ℕ) → l.start + i < l.end → (l.start + i) / 4096 < l.at → IsSome (page_of l.pages ((l.start + i) / 4096)) → 0 ≡ byte_at l.pages (l.start + i);
}

abbrev pub decreases-loop-number : goal.decreases-loop-number
decreases-loop-number l = l.last - l.at
