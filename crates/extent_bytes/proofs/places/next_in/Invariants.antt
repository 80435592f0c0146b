use Rattle.std.proofs.Common.{◌≡◌, ℕ, ◌<◌, ◌≤◌, None, slice_get}
use Rattle.extent_bytes.specs.Pages.{stored_at}
use Rattle.extent_bytes.proofs.places.next_in.Given as goal

-- no page lies before the place
abbrev pub invariant-loop-place : goal.invariant-loop-place
invariant-loop-place l = (j : ℕ) → l.from ≤ j → j < l.place → stored_at (slice_get l.places j) ≡ None
