-- A helper: worlds that show items of another one, as a part does while it is cut.
use Rattle.std.specs.Prelude.{◌≡◌, ℕ, ◌+◌, T, List, length, Option, ◌⊎◌}
use Rattle.std.specs.Option.{option_map, option_and_then}
use Rattle.finite_maps.specs.Table.{empty, get, count}
use Rattle.file_tree.specs.Tree.{Names, Node, directory, file, Kind, a_directory, a_file}
use Rattle.world_parts.specs.World.{World, name, names, opened, buffer, broken}
use Rattle.world_parts.specs.Items.{Atom, value, Item, member_of}
use Rattle.world_parts.specs.Cutting.{Shows}

-- The world in which nothing is.
abbrev pub nothing : World
nothing = record { nodes = empty; descriptions = empty; slots = empty; descriptors = empty; buffers = empty; broken = empty }

-- The outline of a node: its kind, and how many names or bytes it has.
abbrev pub outline_of_node : Node → Kind × ℕ
outline_of_node (directory ns o) = (a_directory, count ns + o)
outline_of_node (file bs) = (a_file, length bs)

abbrev pub outline : World → ℕ → Option (Kind × ℕ)
outline s i = option_map outline_of_node (get s.nodes i)

-- What a name of a directory leads to, by number.
abbrev pub looked_up : World → ℕ → List ℕ → Option ℕ
looked_up s d n = option_and_then (λ (ns : Names). get ns n) (names s d)

-- All that a world shows of another's nodes, names, descriptions, buffers and chains is so. Of a node it shows the whole outline.
pub record IsShadow (s shadow : World) : Type 0 where
  pub outlines : (i : ℕ) → Shows (outline shadow i) (outline s i)
  pub names : (d : ℕ) (n : List ℕ) → Shows (name shadow d n) (name s d n)
  pub descriptions : (d : ℕ) → Shows (opened shadow d) (opened s d)
  pub buffers : (r b : ℕ) → Shows (option_map length (buffer shadow r b)) (option_map length (buffer s r b))
  pub chains : (c : ℕ) → Shows (broken shadow c) (broken s c)

-- A shadow that shows at least as much as it did: what agreed still does, and each node's outline is as it was or as it is to be.
pub record IsNearer (s before after : World) : Type 0 where
  pub shadow : IsShadow s after
  pub outlines : (i : ℕ) → (outline after i ≡ outline s i) ⊎ (outline after i ≡ outline before i)
  pub atoms : (a : Atom) → value s a ≡ value before a → value s a ≡ value after a

-- A shadow that shows at least as much as it did, and an item.
pub record IsCopied (s before after : World) (x : Item) : Type 0 where
  pub nearer : IsNearer s before after
  pub item : (a : Atom) → T (member_of x a) → value s a ≡ value after a
