use Rattle.std.proofs.Common.{◌≡◌, take}
use Rattle.std.specs.Prelude.{map}
use Rattle.world_parts.specs.Start.{range_written}
use Rattle.world_parts.specs.World.{apply_all}
use Rattle.world_parts.proofs.state.State.write_ranges.Given as goal

-- the ranges so far are written
abbrev pub invariant-loop-range : goal.invariant-loop-range
invariant-loop-range l = l.self ≡ apply_all (map (range_written l.number) (take l.range-index l.ranges)) l.initial.self
