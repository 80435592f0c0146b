use Rattle.std.proofs.Common.{◌≡◌, ◌++◌, map, take, drop}
use Rattle.world_parts.specs.Uses.{only_read}
use Rattle.world_parts.proofs.footprint.make_reads.Given as goal

-- the uses so far only read, and the others are as before
abbrev pub invariant-loop-used : goal.invariant-loop-used
invariant-loop-used l = l.uses ≡ map only_read (take l.used-index l.fn.uses) ++ drop l.used-index l.fn.uses
