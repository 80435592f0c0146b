use Rattle.std.proofs.Common.{◌≡◌, ◌++◌}
use Rattle.std.specs.List.{flat_map}
use Rattle.world_parts.specs.Image.{paths_below}
use Rattle.world_parts.specs.Pending.{paths_at, paths_pending}
use Rattle.world_parts.proofs.state.State.push_names.Given as goal

-- the names that are left, and those that are pending, stand for what they stood for at first
abbrev pub invariant-loop-name : goal.invariant-loop-name
invariant-loop-name l =
    flat_map (paths_at l.below l.self.nodes l.path) l.name-iterator.entries ++ paths_pending l.self.nodes l.pending.items
    ≡ paths_below l.levels l.self.nodes l.path l.directory ++ paths_pending l.self.nodes l.fn.pending.items
