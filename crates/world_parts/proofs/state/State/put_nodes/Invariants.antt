use Rattle.std.proofs.Common.{◌≡◌, drop}
use Rattle.world_parts.specs.Putting.{with_nodes}
use Rattle.world_parts.proofs.state.State.put_nodes.Given as goal

abbrev pub invariant-loop-written : goal.invariant-loop-written
invariant-loop-written l = with_nodes (drop l.written-index l.uses) l.part l.self ≡ with_nodes l.uses l.part l.fn.self
