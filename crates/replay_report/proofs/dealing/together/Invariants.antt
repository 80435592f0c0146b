use Rattle.std.specs.List.{All}
use Rattle.std.specs.Prelude.{IfOk}
use Rattle.world_parts.specs.World.{World}
use Rattle.replay_report.specs.Sums.{AreSumsOf, IsSum}
use Rattle.replay_report.proofs.dealing.together.Given as goal

abbrev pub invariant-loop-each : goal.invariant-loop-each
invariant-loop-each l = (world : World) → All (λ each. IfOk each (λ sums. All (IsSum world) sums.items)) l.fn.made → AreSumsOf world l.all
