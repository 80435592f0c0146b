use Rattle.std.proofs.Common.{◌≡◌, take}
use Rattle.world_parts.specs.Start.{descriptions_from}
use Rattle.world_parts.proofs.start.add_descriptions.Given as goal

-- the map has the descriptions so far
abbrev pub invariant-loop-number : goal.invariant-loop-number
invariant-loop-number l = l.table ≡ descriptions_from 0 (take l.number l.descriptions)
