-- A law: what a replay gives on a world without what nothing leads to.
use Rattle.std.specs.Prelude.{◌≡◌, ℕ, length}
use Rattle.recording.specs.declared.recording.Recording.{Recording}
use Rattle.world_parts.specs.Image.{image_of}
use Rattle.world_parts.specs.World.{World, IsWorld}
use Rattle.op_meaning.specs.Step.{step_reply, step_world}
use Rattle.foot_print.specs.Laws.{Awaits}
use Rattle.sweep_laws.specs.Holding.{PlaceHolds}
use Rattle.sweep_laws.specs.Within.{IsWithin}

-- A place gives the same reply on both worlds, and leaves one within the other.
pub record IsSame (t : Recording) (k : ℕ) (s w : World) : Type 0 where
  pub reply : step_reply t k w ≡ step_reply t k s
  pub within : IsWithin (length t.descriptions) (step_world t k s) (step_world t k w)

-- So it is on each world within another.
abbrev pub PlacesAreSame : Type 0
PlacesAreSame = (t : Recording) (k : ℕ) (s w : World) → PlaceHolds t k → Awaits t k s → IsWithin (length t.descriptions) s w → IsSame t k s w

-- Both have one image.
abbrev pub WithinShowsSame : Type 0
WithinShowsSame = (started : ℕ) (s w : World) → IsWorld s → IsWithin started s w → image_of w ≡ image_of s
