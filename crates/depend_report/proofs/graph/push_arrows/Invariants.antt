use Rattle.std.proofs.Common.{◌≡◌, ◌++◌, take}
use Rattle.std.specs.List.{flat_map}
use Rattle.round_report.specs.Rounds.{arrow_line}
use Rattle.depend_report.proofs.graph.push_arrows.Given as goal

abbrev pub invariant-loop-wait : goal.invariant-loop-wait
invariant-loop-wait l = l.text.items ≡ l.initial.text.items ++ flat_map (λ w. arrow_line l.trace w.after l.fn.place w.on) (take l.wait-index l.waits)
