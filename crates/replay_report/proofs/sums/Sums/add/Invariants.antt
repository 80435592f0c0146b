use Rattle.std.specs.List.{All}
use Rattle.world_parts.specs.World.{World}
use Rattle.replay_report.specs.Sums.{AreSumsOf, IsSum}
use Rattle.replay_report.proofs.sums.Sums.add.Given as goal

abbrev pub invariant-loop-summed : goal.invariant-loop-summed
invariant-loop-summed l = (world : World) → AreSumsOf world l.fn.self → All (IsSum world) l.fn.made → AreSumsOf world l.self
