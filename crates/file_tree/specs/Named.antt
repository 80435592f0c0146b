-- The model: which nodes have a name.
use Rattle.std.specs.Prelude.{◌==◌, ℕ, Bool, false}
use Rattle.finite_maps.specs.Sifted.{has_value}
use Rattle.file_tree.specs.Tree.{Tree, Node, directory, file}

-- Whether a node is a directory that has a name for a node.
abbrev pub names_it : (node : ℕ) → Node → Bool
names_it i (directory ns o) = has_value (λ x. x == i) ns
names_it i (file bs) = false

-- Whether a name of any directory leads to a node.
abbrev pub is_named : Tree → (node : ℕ) → Bool
is_named tree i = has_value (names_it i) tree
