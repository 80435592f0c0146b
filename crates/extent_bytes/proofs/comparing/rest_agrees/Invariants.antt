use Rattle.std.proofs.Common.{◌≡◌, ℕ, ◌+◌, ◌-◌, ◌/◌, ◌<◌, ◌≤◌}
use Rattle.std.specs.Prelude.{IsSome}
use Rattle.extent_bytes.specs.Pages.{page_of, byte_at}
use Rattle.extent_bytes.proofs.comparing.rest_agrees.Given as goal

-- the stored pages before `at` agree
abbrev pub invariant-loop-number : goal.invariant-loop-number
invariant-loop-number l = record {
  first : l.start / 4096 ≤ l.at;
  within : l.at ≤ l.last;
  agree : (i : ℕ) → l.start + i < l.end → (l.start + i) / 4096 < l.at → IsSome (page_of l.other ((l.start + i) / 4096)) →
      byte_at l.pages (l.start + i) ≡ byte_at l.other (l.start + i);
}

abbrev pub decreases-loop-number : goal.decreases-loop-number
decreases-loop-number l = l.last - l.at
