use Rattle.std.proofs.Common.{◌≡◌, ◌++◌, map}
use Rattle.replay_report.proofs.sums.by_length.Given as goal

abbrev pub invariant-loop-holder : goal.invariant-loop-holder
invariant-loop-holder l = l.holders.items ++ map (λ it. it.1) l.holder-iterator ≡ map (λ it. it.1) l.set.keys
