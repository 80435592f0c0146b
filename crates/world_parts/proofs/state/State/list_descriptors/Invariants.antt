use Rattle.std.proofs.Common.{◌≡◌, ◌∷◌, [], ◌++◌}
use Rattle.std.specs.List.{flat_map}
use Rattle.sqe_codec.specs.Answers.{each}
use Rattle.finite_maps.specs.Table.{get}
use Rattle.world_parts.specs.Image.{image_of, descriptor_entry}
use Rattle.world_parts.proofs.state.State.list_descriptors.Given as goal

-- the lines so far, and those of the descriptors that are left
abbrev pub invariant-loop-number : goal.invariant-loop-number
invariant-loop-number l = l.entries.items ++ flat_map (λ e. each (λ d. descriptor_entry e d ∷ []) (get l.self.descriptions e.1)) l.number-iterator ≡ (image_of l.self).descriptors
