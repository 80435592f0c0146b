use Rattle.replay_report.specs.Sums.{AreTreeSums}
use Rattle.replay_report.proofs.tree_sums.TreeSums.of.Given as goal

abbrev pub invariant-loop-node : goal.invariant-loop-node
invariant-loop-node l = AreTreeSums l.world l.sums
