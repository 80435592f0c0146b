use Rattle.std.proofs.lemmas.Map.Lookups.{exact_unsigned}
use Rattle.replay_report.specs.Sums.{IsTreeSum}
use Rattle.replay_report.proofs.SumLemmas.{entry_more}
use Rattle.replay_report.proofs.tree_sums.TreeSums.add.Goals as goal

pub returns : goal.returns
returns c = λ all.
    rw c.in_ok-insert.ensures.entries (entry_more _ exact_unsigned (IsTreeSum c.args.world.now) c.args.self.now.known.entries all c.args.node c.in_ok-sum.sum c.in_ok-sum.ensures)
