use Rattle.std.proofs.Common.{ap, ◌∙◌}
use Rattle.std.proofs.lemmas.Result.{on_ok_weaker}
use Rattle.finite_maps.specs.Table.{insert, number_keys}
use Rattle.file_tree.proofs.tree.Tree.add_listing.Goals as goal

pub returns-clause-ok : goal.returns-clause-ok
returns-clause-ok c =
    on_ok_weaker c.put.result (λ e. e ∙ ap (insert number_keys.total c.args.self.now c.args.number) c.listing.ensures) c.put.ensures.ok
