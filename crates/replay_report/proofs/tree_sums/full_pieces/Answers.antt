use Rattle.std.proofs.Common.{[], List, ℕ, subst}
use Rattle.std.specs.Prelude.{unwrap_or}
use Rattle.sha2.specs.Hashers.{Holds256}
use Rattle.world_parts.specs.World.{bytes}
use Rattle.replay_report.proofs.TreeSumLemmas.{full_sums, one_sum_more}
use Rattle.replay_report.proofs.tree_sums.full_pieces.Goals as goal

pub loop-number-preserved : goal.loop-number-preserved
loop-number-preserved c =
    let all : List ℕ = unwrap_or (bytes c.args.world.now c.args.node) [] in
    subst (Holds256 c.update.new.self) (one_sum_more all c.in_ok-sum.sum c.loop-number.number c.in_ok-sum.ensures)
    (c.update.ensures (full_sums all c.loop-number.number) c.loop-number.invariant)
