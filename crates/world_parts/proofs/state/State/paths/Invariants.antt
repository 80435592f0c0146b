use Rattle.std.proofs.Common.{◌≡◌, length}
use Rattle.finite_maps.specs.Table.{text_keys}
use Rattle.world_parts.specs.Image.{all_paths, by_path}
use Rattle.finite_maps.specs.Maps.{seen_table}
use Rattle.world_parts.specs.Pending.{paths_pending}
use Rattle.world_parts.proofs.state.State.paths.Given as goal

-- the paths so far, and those of the names that are pending, are all paths
abbrev pub invariant-loop-next : goal.invariant-loop-next
invariant-loop-next l = by_path (seen_table text_keys.total (λ path. path) l.paths.entries) (paths_pending l.self.nodes l.pending.items) ≡ all_paths l.self.nodes

abbrev pub decreases-loop-next : goal.decreases-loop-next
decreases-loop-next l = length (paths_pending l.self.nodes l.pending.items)
