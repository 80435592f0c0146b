use Rattle.std.proofs.Common.{ℕ, ap, nat_eq, ◌∙◌}
use Rattle.std.specs.Prelude.{◌||◌}
use Rattle.std.specs.List.{list_any}
use Rattle.indexmap.specs.IndexSet.{contains}
use Rattle.finite_maps.proofs.Sifting.{has_value-of}
use Rattle.file_tree.specs.Named.{names_it}
use Rattle.file_tree.specs.Tree.{Node}
use Rattle.file_tree.proofs.tree.Tree.mark_named.Goals as goal

pub loop-node-init : goal.loop-node-init
loop-node-init c i =
    let given = c.into_iter-node-iterator.ensures.into_iter_gives in
    ap (λ b. contains nat_eq c.args.marks.now i || b)
    (ap (list_any (λ (e : ℕ × Node). names_it i e.1)) given.0 ∙ has_value-of c.self.inside.nodes.entries c.args.self.now given.4 c.self.view_is (names_it i))
