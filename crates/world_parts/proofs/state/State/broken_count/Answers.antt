use Rattle.std.proofs.Common.{ap, ◌∙◌}
use Rattle.finite_maps.proofs.Indexed.{count-of}
use Rattle.world_parts.specs.World.{World}
use Rattle.world_parts.proofs.state.State.broken_count.Goals as goal

pub returns : goal.returns
returns c = c.len.ensures.len ∙ count-of c.self.inside.broken c.args.self.now.broken c.len.ensures.unique (ap (λ (w : World). w.broken) c.self.view_is)
