use Rattle.std.specs.Prelude.{◌&&◌, nat_eq}
use Rattle.std.specs.List.{list_any}
use Rattle.indexmap.specs.IndexSet.{contains}
use Rattle.finite_maps.specs.Marks.{AreMarked}
use Rattle.finite_maps.specs.Sifted.{has_value, only}
use Rattle.ring_tables.proofs.descriptions.Descriptions.mark_nodes.Given as goal

-- what is marked, and the nodes of the descriptions that are left
abbrev pub invariant-loop-number : goal.invariant-loop-number
invariant-loop-number l =
    AreMarked (λ i. list_any (λ e. contains nat_eq l.fn.held e.0 && nat_eq e.1.node i) l.number-iterator)
    (λ i. has_value (λ d. nat_eq d.node i) (only (λ d. contains nat_eq l.fn.held d) l.self)) l.fn.marks l.marks
