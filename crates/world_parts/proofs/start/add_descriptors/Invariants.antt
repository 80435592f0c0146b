use Rattle.std.proofs.Common.{◌≡◌, take}
use Rattle.world_parts.specs.Start.{descriptors_from}
use Rattle.world_parts.proofs.start.add_descriptors.Given as goal

-- the map has the full descriptors so far
abbrev pub invariant-loop-number : goal.invariant-loop-number
invariant-loop-number l = l.table ≡ descriptors_from 0 (take l.number l.descriptors)
