use Rattle.std.proofs.Common.{◌≡◌, take}
use Rattle.world_parts.specs.Start.{buffers_from}
use Rattle.world_parts.proofs.start.add_buffers.Given as goal

-- the map has the buffers so far
abbrev pub invariant-loop-index : goal.invariant-loop-index
invariant-loop-index l = l.table ≡ buffers_from l.ring 0 (take l.index l.buffers) l.initial.table
