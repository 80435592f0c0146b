use Rattle.std.proofs.Common.{ap, ◌∙◌}
use Rattle.std.proofs.lemmas.Result.{on_ok_weaker}
use Rattle.extent_bytes.specs.Bytes.{resized}
use Rattle.finite_maps.specs.Table.{insert, number_keys}
use Rattle.file_tree.specs.Tree.{file}
use Rattle.file_tree.proofs.tree.Tree.add_zeros.Goals as goal

pub returns-clause-ok : goal.returns-clause-ok
returns-clause-ok c =
    on_ok_weaker c.put.result
    (λ e.
    e ∙ ap (λ bs. insert number_keys.total c.args.self.now c.args.number (file bs))
    (c.in_ok-set_len.ensures.ok ∙ ap (λ old. resized old c.args.size) c.new-bytes.ensures))
    c.put.ensures.ok
