-- A helper: how the nodes of a tree are stored, for types that contracts see as a tree.
use Rattle.std.specs.Prelude.{◌≡◌, ℕ, List, refl, ◌⊎◌}
use Rattle.std.specs.Coded.{Coded, code_by, coded×, coded⊎, coded_ℕ, coded_list}
use mathlib.Core.Logic.{inl, inr}
use Rattle.finite_maps.specs.Table.{code}
use Rattle.file_tree.specs.Tree.{Tree, Node, directory, file, Names}

abbrev pub names_code : Coded Names
names_code = code (coded_list coded_ℕ) coded_ℕ

abbrev pub node_split : Node → (Names × ℕ) ⊎ List ℕ
node_split (directory ns o) = inl (ns, o)
node_split (file bs) = inr bs

abbrev pub node_join : (Names × ℕ) ⊎ List ℕ → Node
node_join (inl p) = directory p.0 p.1
node_join (inr bs) = file bs

abbrev pub node_same : (n : Node) → node_join (node_split n) ≡ n
node_same (directory ns o) = refl
node_same (file bs) = refl

abbrev pub node_code : Coded Node
node_code = code_by ((Names × ℕ) ⊎ List ℕ) (coded⊎ (coded× names_code coded_ℕ) (coded_list coded_ℕ)) node_split node_join node_same

abbrev pub tree_code : Coded Tree
tree_code = code coded_ℕ node_code
