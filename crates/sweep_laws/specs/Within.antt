-- The model: a world that has of another one what something leads to, and may lack the rest.
use Rattle.std.specs.Prelude.{◌≡◌, ℕ, ◌<◌, IsSome}
use Rattle.finite_maps.specs.Table.{get}
use Rattle.world_parts.specs.World.{World, IsWorld}

-- What it has is as there. It has all slots, descriptors and buffers, and the descriptions that the trace starts with.
pub record IsWithin (started : ℕ) (s w : World) : Type 0 where
  -- what slots, descriptors, names and descriptions lead to is in it
  pub is_world : IsWorld w
  pub nodes : (i : ℕ) → IsSome (get w.nodes i) → get w.nodes i ≡ get s.nodes i
  pub descriptions : (d : ℕ) → IsSome (get w.descriptions d) → get w.descriptions d ≡ get s.descriptions d
  pub first_descriptions : (d : ℕ) → d < started → get w.descriptions d ≡ get s.descriptions d
  pub slots : w.slots ≡ s.slots
  pub descriptors : w.descriptors ≡ s.descriptors
  pub buffers : w.buffers ≡ s.buffers
  pub broken : w.broken ≡ s.broken
