use Rattle.std.proofs.Common.{ap, ◌∙◌}
use Rattle.finite_maps.specs.Table.{count}
use Rattle.world_parts.specs.World.{World}
use Rattle.world_parts.proofs.state.State.node_count.Goals as goal

pub returns : goal.returns
returns c = c.node_count.ensures ∙ ap (λ (w : World). count w.nodes) c.self.view_is
