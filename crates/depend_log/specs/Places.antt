-- The model: what is told of a place.
use Rattle.std.specs.Prelude.{◌≡◌, ℕ}
use Rattle.recording.specs.declared.recording.Recording.{Recording}
use Rattle.depend_log.specs.declared.wait.PlaceWaits.{PlaceWaits}
use Rattle.depend_log.specs.Waits.{AreWaits, moved_at}

-- The bytes that it moves, and all that it waits for.
pub record IsPlaceWaits (t : Recording) (k : ℕ) (place : PlaceWaits) : Type 0 where
  pub moved : place.moved ≡ moved_at t k
  pub waits : AreWaits t k place.waits
