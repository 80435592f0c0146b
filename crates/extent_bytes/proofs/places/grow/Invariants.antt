use Rattle.std.proofs.Common.{◌≡◌, ℕ, ◌-◌, ◌≤◌, length, max, slice_get}
use Rattle.extent_bytes.specs.Pages.{stored_at}
use Rattle.extent_bytes.proofs.places.grow.Given as goal

abbrev pub invariant-loop-places : goal.invariant-loop-places
invariant-loop-places l = record {
  same : (j : ℕ) → stored_at (slice_get l.places.items j) ≡ stored_at (slice_get l.initial.places.items j);
  least : length l.initial.places.items ≤ length l.places.items;
  most : length l.places.items ≤ max l.len (length l.initial.places.items);
}

abbrev pub decreases-loop-places : goal.decreases-loop-places
decreases-loop-places l = l.len - length l.places.items
