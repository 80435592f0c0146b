use Rattle.std.specs.Prelude.{nat_eq}
use Rattle.std.specs.List.{list_any}
use Rattle.finite_maps.specs.Marks.{AreMarked}
use Rattle.finite_maps.specs.Sifted.{has_value}
use Rattle.world_parts.proofs.state.State.mark_in_slots.Given as goal

-- what is marked, and what the slots that are left hold
abbrev pub invariant-loop-description : goal.invariant-loop-description
invariant-loop-description l = AreMarked (λ i. list_any (λ e. nat_eq e.1 i) l.description-iterator) (λ i. has_value (λ x. nat_eq x i) l.self.slots) l.fn.marks l.marks
