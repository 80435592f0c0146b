use Rattle.std.proofs.Common.{List, ap, inr, length, ◌∙◌}
use Rattle.world_parts.specs.Sweeping.{swept}
use Rattle.world_parts.specs.World.{Description}
use Rattle.replay_stream.proofs.replaying.sweep_if_due.Goals as goal

pub returns : goal.returns
returns c = record { is = inr (c.in_ok-left.ensures.ok ∙ ap (λ (l : List Description). swept (length l) c.args.state.now) c.as_slice.ensures) }
