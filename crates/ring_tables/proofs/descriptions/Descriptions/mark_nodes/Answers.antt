use Rattle.std.proofs.Common.{ℕ, ap, nat_eq, ◌∙◌}
use Rattle.std.specs.Prelude.{◌&&◌, ◌||◌}
use Rattle.std.specs.List.{list_any}
use Rattle.indexmap.specs.IndexSet.{contains}
use Rattle.trace_format.specs.declared.trace.Description.{Description}
use Rattle.finite_maps.proofs.Sifting.{has_value-only-of}
use Rattle.ring_tables.proofs.descriptions.Descriptions.mark_nodes.Goals as goal

pub loop-number-init : goal.loop-number-init
loop-number-init c i =
    let given = c.into_iter-number-iterator.ensures.into_iter_gives in
    let held = c.args.held.now in
    ap (λ b. contains nat_eq c.args.marks.now i || b)
    (ap (list_any (λ (e : ℕ × Description). contains nat_eq held e.0 && nat_eq e.1.node i)) given.0
    ∙ has_value-only-of c.self.inside.entries.entries c.args.self.now given.4 c.self.view_is (λ (d : Description). nat_eq d.node i) (λ d. contains nat_eq held d))
