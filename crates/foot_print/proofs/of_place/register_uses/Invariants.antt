use Rattle.std.proofs.Common.{◌≡◌, ◌++◌, take}
use Rattle.std.specs.List.{flat_map}
use Rattle.foot_print.specs.Footprint.{slot_uses}
use Rattle.foot_print.proofs.of_place.register_uses.Given as goal

-- what the slots so far use
abbrev pub invariant-loop-slot : goal.invariant-loop-slot
invariant-loop-slot l = l.footprint ≡ l.fn.footprint ++ flat_map (slot_uses l.ring) (take l.slot-index l.slots)
