-- The model: what nothing leads to any more, and a world without it.
use Rattle.std.specs.Prelude.{◌==◌, ℕ, Bool, ◌||◌, ltb}
use Rattle.std.specs.Ordering.{nat_cmp}
use Rattle.finite_maps.specs.Table.{Table, empty}
use Rattle.finite_maps.specs.Sifted.{only, has_value}
use Rattle.file_tree.specs.Named.{is_named}
use Rattle.world_parts.specs.World.{World, Description}

-- Whether a slot or a descriptor holds an open file description.
abbrev pub is_held : World → (description : ℕ) → Bool
is_held s d = has_value (λ x. x == d) s.slots || has_value (λ x. x == d) s.descriptors

-- Whether an open file description has a node.
abbrev pub is_open : Table nat_cmp Description → (node : ℕ) → Bool
is_open ds i = has_value (λ d. d.node == i) ds

-- The world without the descriptions that nothing holds, but for the first ones, which the trace starts with; without the nodes that are neither the root nor named nor open; and with all chains running.
abbrev pub swept : (started : ℕ) → World → World
swept started s =
    let descriptions = only (λ d. ltb d started || is_held s d) s.descriptions in
    record s { descriptions = descriptions; nodes = only (λ i. i == 0 || is_named s.nodes i || is_open descriptions i) s.nodes; broken = empty }
