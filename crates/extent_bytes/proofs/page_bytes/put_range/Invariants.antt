use Rattle.std.proofs.Common.{◌+◌, ◌-◌, ◌≤◌, length, get_or}
use Rattle.extent_bytes.specs.Pages.{Overlaid}
use Rattle.extent_bytes.proofs.page_bytes.put_range.Given as goal

-- the first bytes are written
abbrev pub invariant-loop-done : goal.invariant-loop-done
invariant-loop-done l = record {
  within : l.done ≤ length l.bytes;
  written : Overlaid l.initial.pages l.pages l.at (l.at + l.done) (λ p. get_or l.bytes (p - l.at) 0);
}

abbrev pub decreases-loop-done : goal.decreases-loop-done
decreases-loop-done l = length l.bytes - l.done
