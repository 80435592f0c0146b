use Rattle.std.specs.List.{All}
use Rattle.replay_report.specs.Sums.{IsSum}
use Rattle.replay_report.proofs.sums.sums_of.Given as goal

abbrev pub invariant-loop-holder : goal.invariant-loop-holder
invariant-loop-holder l = All (IsSum l.world) l.made.items
