use Rattle.std.proofs.Common.{◌≡◌, ◌∷◌, [], ◌++◌}
use Rattle.std.specs.List.{flat_map}
use Rattle.sqe_codec.specs.Answers.{each}
use Rattle.finite_maps.specs.Table.{get}
use Rattle.world_parts.specs.Image.{image_of, slot_entry}
use Rattle.world_parts.proofs.state.State.list_slots.Given as goal

-- the lines so far, and those of the slots that are left
abbrev pub invariant-loop-ring : goal.invariant-loop-ring
invariant-loop-ring l = l.entries.items ++ flat_map (λ e. each (λ d. slot_entry e d ∷ []) (get l.self.descriptions e.1)) l.ring-iterator ≡ (image_of l.self).slots
