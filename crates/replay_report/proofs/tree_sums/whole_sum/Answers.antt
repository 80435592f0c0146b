use Rattle.std.proofs.Common.{◌/◌, ◌++◌, [], List, ℕ, ◌∙◌}
use Rattle.std.specs.Prelude.{unwrap_or}
use Rattle.world_parts.specs.World.{bytes}
use Rattle.replay_report.proofs.TreeSumLemmas.{full_sums, sum_of_both, sum_of_full}
use Rattle.replay_report.proofs.tree_sums.whole_sum.Goals as goal

pub returns-then-done-len : goal.returns-then-done-len
returns-then-done-len c =
    let all : List ℕ = unwrap_or (bytes c.args.world.now c.args.node) [] in
    c.finalize.ensures (full_sums all (c.args.len / 16777216)) c.requires.hasher ∙ sum_of_full all c.args.len c.requires.len c.if-done-len.true

pub returns : goal.returns
returns c =
    let all : List ℕ = unwrap_or (bytes c.args.world.now c.args.node) [] in
    let sums : List ℕ = full_sums all (c.args.len / 16777216) in
    c.finalize-2.ensures (sums ++ c.in_ok-sum.sum) (c.update.ensures sums c.requires.hasher)
    ∙ sum_of_both all c.in_ok-sum.sum c.args.len c.requires.len c.if-done-len.false c.in_ok-sum.ensures
