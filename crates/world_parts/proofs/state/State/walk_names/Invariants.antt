use Rattle.std.proofs.Common.{◌≡◌, [], ◌++◌, length}
use Rattle.std.specs.Prelude.{map}
use Rattle.std.specs.List.Sorted.{IsPermutation}
use Rattle.finite_maps.specs.Table.{count}
use Rattle.world_parts.specs.Image.{name_entry, paths_below}
use Rattle.world_parts.specs.Pending.{Rise, paths_listed, paths_pending}
use Rattle.world_parts.proofs.state.State.walk_names.Given as goal

-- what is listed rises, and has with the paths of the pending names all paths
abbrev pub invariant-loop-next : goal.invariant-loop-next
invariant-loop-next l = record {
  entries : l.entries.items ≡ map (name_entry l.self.nodes) (paths_listed l.entries.items);
  rise : Rise (paths_listed l.entries.items);
  all : IsPermutation (paths_below (count l.self.nodes) l.self.nodes [] 0) (paths_listed l.entries.items ++ paths_pending l.self.nodes l.pending.items);
}

abbrev pub decreases-loop-next : goal.decreases-loop-next
decreases-loop-next l = length (paths_pending l.self.nodes l.pending.items)
