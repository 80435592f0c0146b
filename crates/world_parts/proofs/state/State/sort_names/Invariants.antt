use Rattle.std.proofs.Common.{◌≡◌, ◌∷◌, [], ◌++◌}
use Rattle.std.specs.List.{flat_map}
use Rattle.world_parts.specs.Image.{image_of, name_entry}
use Rattle.world_parts.proofs.state.State.sort_names.Given as goal

-- the lines so far, and those of the paths that are left
abbrev pub invariant-loop-path : goal.invariant-loop-path
invariant-loop-path l = l.entries.items ++ flat_map (λ e. name_entry l.self.nodes (e.0, e.1) ∷ []) l.path-iterator ≡ (image_of l.self).names
