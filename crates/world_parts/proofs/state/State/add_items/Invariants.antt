use Rattle.std.proofs.Common.{◌≡◌, take}
use Rattle.world_parts.specs.Known.{Knows}
use Rattle.world_parts.specs.Start.{with_items}
use Rattle.world_parts.proofs.state.State.add_items.Given as goal

-- the world has the items so far, and directories of theirs are known
abbrev pub invariant-loop-index : goal.invariant-loop-index
invariant-loop-index l = record { items : l.self ≡ with_items l.initial.self 1 (take l.index l.items); known : Knows l.self.nodes l.known }
