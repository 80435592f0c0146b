use Rattle.std.proofs.Common.{sym}
use Rattle.std.proofs.lemmas.List.Elements.{All-contains}
use Rattle.std.proofs.lemmas.Map.Lookups.{exact_unsigned}
use Rattle.std.proofs.lemmas.Map.Views.{Contains-from_lookup, tells_apart}
use Rattle.replay_report.specs.Sums.{IsTreeSum}
use Rattle.replay_report.proofs.tree_sums.TreeSums.get.Goals as goal

pub returns-in-Some : goal.returns-in-Some
returns-in-Some c =
    let known = c.args.self.now.known.entries in
    All-contains (IsTreeSum c.args.world.now) known (c.args.node, c.in-Some.sum.now) c.requires.sums
    (Contains-from_lookup (tells_apart exact_unsigned) c.args.node c.in-Some.sum.now known (sym c.in-Some.ensures.value))
