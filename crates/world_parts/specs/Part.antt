-- The model: a world of which parts may be out.
use Rattle.std.specs.Prelude.{ℕ}
use Rattle.std.specs.Ordering.{nat_cmp}
use Rattle.finite_maps.specs.Table.{Table, empty}
use Rattle.world_parts.specs.World.{World}
use Rattle.world_parts.specs.Items.{Footprint}

-- A part: the place that it was cut for, and a small world with the values of its access set's atoms.
pub record Part : Type 0 where
  pub place : ℕ
  pub values : World

-- A world, and the access sets of the parts that are out, by their places.
pub record Divided : Type 0 where
  pub world : World
  pub out : Table nat_cmp Footprint

-- A world of which no part is out.
abbrev pub whole : World → Divided
whole s = record { world = s; out = empty }
