-- A view of code: a patch for pages of which a range covers some in part.
use Rattle.std.specs.Prelude.{◌≡◌, ◌≢◌, ℕ, ◌-◌, ◌*◌, ◌/◌, ◌%◌, ◌<◌}
use Rattle.extent_bytes.specs.Pages.{PageMap, byte_at}

-- The patch, whose page 0 is the page of a number, now has the page that a position lies within. One between two pages lies within none.
pub record HasParted (pages old new : PageMap) (first position : ℕ) : Type 0 where
  pub parted : (p : ℕ) → 0 < position % 4096 → p / 4096 ≡ position / 4096 → byte_at new (p - first * 4096) ≡ byte_at pages p
  pub others : (p : ℕ) → p / 4096 ≢ position / 4096 - first → byte_at new p ≡ byte_at old p
