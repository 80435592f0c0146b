use Rattle.std.proofs.Common.{◌≡◌, ℕ, ◌+◌, ◌<◌, ◌≤◌, length, slice_get}
use Rattle.extent_bytes.specs.Pages.{stored_at}
use Rattle.extent_bytes.proofs.places.put_all_in.Given as goal

-- the others up to the place are taken, and the rest is as it was
abbrev pub invariant-loop-place : goal.invariant-loop-place
invariant-loop-place l = record {
  long : l.end ≤ length l.places.items;
  taken : (j : ℕ) → l.first + j < l.place → stored_at (slice_get l.places.items (l.first + j)) ≡ stored_at (slice_get l.fn.others.items j);
  below : (j : ℕ) → j < l.first → stored_at (slice_get l.places.items j) ≡ stored_at (slice_get l.fn.places.items j);
  above : (j : ℕ) → l.end ≤ j → stored_at (slice_get l.places.items j) ≡ stored_at (slice_get l.fn.places.items j);
  left : (j : ℕ) → l.place ≤ l.first + j → slice_get l.others.items j ≡ slice_get l.fn.others.items j;
}
