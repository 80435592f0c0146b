-- A view of code: what two items share, as it is found.
use Rattle.std.specs.Prelude.{Bool, true, false, Option, Some, None, if◌then◌else◌}
use Rattle.world_parts.specs.Items.{Item, one, share}
use Rattle.wave_pick.specs.Holding.{shared_item}

-- Whether an item is a single atom.
abbrev pub is_single : Item → Bool
is_single (one a) = true
is_single x = false

-- What two items share, if they share an atom.
abbrev pub shared_if : Item → Item → Option Item
shared_if x y = if share x y then Some (shared_item x y) else None
