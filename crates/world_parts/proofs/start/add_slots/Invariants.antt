use Rattle.std.proofs.Common.{◌≡◌, take}
use Rattle.world_parts.specs.Start.{slots_from}
use Rattle.world_parts.proofs.start.add_slots.Given as goal

-- the map has the full slots so far
abbrev pub invariant-loop-number : goal.invariant-loop-number
invariant-loop-number l = l.table ≡ slots_from l.ring 0 (take l.number l.slots) l.initial.table
