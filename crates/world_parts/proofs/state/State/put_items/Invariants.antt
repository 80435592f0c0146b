use Rattle.std.proofs.Common.{◌≡◌, drop}
use Rattle.world_parts.specs.Putting.{with_items}
use Rattle.world_parts.proofs.state.State.put_items.Given as goal

abbrev pub invariant-loop-written : goal.invariant-loop-written
invariant-loop-written l = with_items (drop l.written-index l.uses) l.part l.self ≡ with_items l.uses l.part l.fn.self
