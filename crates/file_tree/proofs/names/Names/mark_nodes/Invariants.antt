use Rattle.std.specs.Prelude.{nat_eq}
use Rattle.std.specs.List.{list_any}
use Rattle.finite_maps.specs.Marks.{AreMarked}
use Rattle.finite_maps.specs.Sifted.{has_value}
use Rattle.file_tree.proofs.names.Names.mark_nodes.Given as goal

-- what is marked, and what the names that are left lead to
abbrev pub invariant-loop-node : goal.invariant-loop-node
invariant-loop-node l = AreMarked (λ i. list_any (λ e. nat_eq e.1 i) l.node-iterator.entries) (λ i. has_value (λ x. nat_eq x i) l.self) l.fn.marks l.marks
