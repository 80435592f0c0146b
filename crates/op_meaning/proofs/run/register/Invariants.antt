use Rattle.std.proofs.Common.{◌≡◌, map, drop}
use Rattle.op_meaning.specs.Step.{filled_slot}
use Rattle.world_parts.specs.World.{apply_all}
use Rattle.op_meaning.proofs.run.register.Given as goal

-- what is left to fill gives what all gives on the world at the start
abbrev pub invariant-loop-i : goal.invariant-loop-i
invariant-loop-i l = apply_all (map (filled_slot l.ring l.initial.state) (drop l.i l.slots)) l.state ≡ apply_all (map (filled_slot l.ring l.initial.state) l.slots) l.initial.state
