use Rattle.std.specs.List.{list_any}
use Rattle.finite_maps.specs.Marks.{AreMarked}
use Rattle.file_tree.specs.Named.{is_named, names_it}
use Rattle.file_tree.proofs.tree.Tree.mark_named.Given as goal

-- what is marked, and what the nodes that are left name
abbrev pub invariant-loop-node : goal.invariant-loop-node
invariant-loop-node l = AreMarked (λ i. list_any (λ e. names_it i e.1) l.node-iterator) (is_named l.self) l.fn.marks l.marks
