use Rattle.std.proofs.Common.{◌≡◌, take}
use Rattle.world_parts.specs.Start.{ring_buffers}
use Rattle.world_parts.proofs.start.add_all_buffers.Given as goal

-- the map has the buffers of the rings so far
abbrev pub invariant-loop-number : goal.invariant-loop-number
invariant-loop-number l = l.table ≡ ring_buffers 0 (take l.number l.rings)
