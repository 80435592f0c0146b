-- The model: when one waiting place blocks another.
use Rattle.std.specs.Prelude.{◌≡◌, ℕ, ◌<◌, true, false, List}
use Rattle.interleaving.specs.System.{reaches}
use Rattle.interleaving.specs.Machine.{has}
use Rattle.recording.specs.declared.recording.Recording.{Recording}
use Rattle.world_parts.specs.World.{World}
use Rattle.world_parts.specs.Items.{Footprint, collide}
use Rattle.foot_print.specs.Footprint.{footprint}
use Rattle.foot_print.specs.Reach.{reach}
use Rattle.foot_print.specs.Replayed.{replayed}
use Rattle.wave_pick.specs.Rounds.{state_after}

-- The place hasn't run in the first r rounds.
abbrev pub Waits : Recording → ℕ → ℕ → ℕ → Type 0
Waits t window r k = has (state_after t window r).finished k ≡ false

-- The world after r rounds; there the access set of a place, the may-access sets of the waiting places before it, and its own may-access set.
abbrev pub world_after : Recording → ℕ → ℕ → World
world_after t window r = (state_after t window r).world

abbrev pub footprint_after : Recording → ℕ → ℕ → ℕ → Footprint
footprint_after t window r k = footprint t k (world_after t window r)

abbrev pub reaches_after : Recording → ℕ → ℕ → ℕ → List Footprint
reaches_after t window r k = reaches (replayed t) (has (state_after t window r).finished) (world_after t window r) k

abbrev pub reach_after : Recording → ℕ → ℕ → ℕ → Footprint
reach_after t window r k = reach t k (world_after t window r) (reaches_after t window r k)

-- One place blocks a later one: it waits, and its may-access set collides with the access set of the later one.
pub record HoldsBack (t : Recording) (window r i k : ℕ) : Type 0 where
  pub is_before : i < k
  pub waits : Waits t window r i
  pub collides : collide (footprint_after t window r k) (reach_after t window r i) ≡ true
