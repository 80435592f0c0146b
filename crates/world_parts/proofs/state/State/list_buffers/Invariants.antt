use Rattle.std.proofs.Common.{◌≡◌, ◌∷◌, [], ◌++◌}
use Rattle.std.specs.List.{flat_map}
use Rattle.world_parts.specs.Image.{image_of, buffer_entry}
use Rattle.world_parts.proofs.state.State.list_buffers.Given as goal

-- the lines so far, and those of the buffers that are left
abbrev pub invariant-loop-ring : goal.invariant-loop-ring
invariant-loop-ring l = l.entries.items ++ flat_map (λ e. buffer_entry e ∷ []) l.ring-iterator ≡ (image_of l.self).buffers
