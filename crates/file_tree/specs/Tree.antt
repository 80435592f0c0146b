-- The model: the file tree, directories and files by number.
use Rattle.std.specs.Prelude.{◌≡◌, ℕ, ◌+◌, ◌-◌, List, [], length, Option, Some, None, IfSome, IsSome, slice_index_or}
use Rattle.std.specs.Option.{option_map, option_and_then}
use Rattle.std.specs.Ordering.{nat_cmp}
use Rattle.std.specs.Cmp.Lexicographic.{slice_cmp}
use Rattle.finite_maps.specs.Table.{Table, empty, get, insert, assign, count, text_keys}

-- The names of a directory, each with the number of its node.
abbrev pub Names : Type 0
Names = Table (slice_cmp nat_cmp) ℕ

-- A node of the file tree: a directory with its names, and how many others it has that aren't shown; or a file with its bytes. Only in parts of a world there are others.
pub data Node : Type 0 where
  directory : (names : Names) (others : ℕ) → Node
  file : (bytes : List ℕ) → Node

pub data Kind : Type 0 where
  a_directory : Kind
  a_file : Kind

-- The nodes by their numbers; the root is number 0.
abbrev pub Tree : Type 0
Tree = Table nat_cmp Node

abbrev pub kind_of_node : Node → Kind
kind_of_node (directory ns o) = a_directory
kind_of_node (file bs) = a_file

abbrev pub names_of_node : Node → Option Names
names_of_node (directory ns o) = Some ns
names_of_node (file bs) = None

abbrev pub others_of_node : Node → Option ℕ
others_of_node (directory ns o) = Some o
others_of_node (file bs) = None

abbrev pub count_of_node : Node → Option ℕ
count_of_node (directory ns o) = Some (count ns + o)
count_of_node (file bs) = None

abbrev pub bytes_of_node : Node → Option (List ℕ)
bytes_of_node (directory ns o) = None
bytes_of_node (file bs) = Some bs

-- The kind of a node; the names of a directory; the bytes of a file.
abbrev pub kind : Tree → ℕ → Option Kind
kind tree i = option_map kind_of_node (get tree i)

abbrev pub names : Tree → ℕ → Option Names
names tree i = option_and_then names_of_node (get tree i)

abbrev pub bytes : Tree → ℕ → Option (List ℕ)
bytes tree i = option_and_then bytes_of_node (get tree i)

-- What a name of a directory leads to: a node and its kind.
pub record Target : Type 0 where
  pub node : ℕ
  pub kind : Option Kind

abbrev pub target : Tree → ℕ → Target
target tree i = record { node = i; kind = kind tree i }

abbrev pub name : Tree → ℕ → List ℕ → Option Target
name tree d n = option_map (target tree) (option_and_then (λ ns. get ns n) (names tree d))

-- How many names of a directory aren't shown, and how many it has with them.
abbrev pub others : Tree → ℕ → Option ℕ
others tree d = option_and_then others_of_node (get tree d)

abbrev pub name_count : Tree → ℕ → Option ℕ
name_count tree d = option_and_then count_of_node (get tree d)

-- The size of a file, and the byte at an offset: zero past the size, and where there is no file.
abbrev pub size : Tree → ℕ → Option ℕ
size tree i = option_map length (bytes tree i)

abbrev pub byte_of : Option (List ℕ) → ℕ → ℕ
byte_of None p = 0
byte_of (Some bs) p = slice_index_or bs p 0

abbrev pub byte : Tree → ℕ → ℕ → ℕ
byte tree i p = byte_of (bytes tree i) p

-- Changes of a node.

abbrev pub new_node : Kind → Node
new_node a_directory = directory empty 0
new_node a_file = file []

abbrev pub renamed_node : List ℕ → Option ℕ → Node → Node
renamed_node n i (directory ns o) = directory (assign text_keys.total ns n i) o
renamed_node n i (file bs) = file bs

abbrev pub rewritten_node : (List ℕ → List ℕ) → Node → Node
rewritten_node f (directory ns o) = directory ns o
rewritten_node f (file bs) = file (f bs)

-- A directory that shows one of its other names.
abbrev pub shown_node : List ℕ → ℕ → Node → Node
shown_node n i (directory ns o) = directory (insert text_keys.total ns n i) (o - 1)
shown_node n i (file bs) = file bs

-- A directory lies above another where it names it, or one below it does.
pub data Above (look : ℕ → List ℕ → Option Target) : ℕ → ℕ → Type 0 where
  names_it : (d i : ℕ) (n : List ℕ) → look d n ≡ Some (record { node = i; kind = Some a_directory }) → Above look d i
  one_below : (e d i : ℕ) (n : List ℕ) → Above look e d → look d n ≡ Some (record { node = i; kind = Some a_directory }) → Above look e i

-- Names that make a tree of directories.
pub record IsTree (look : ℕ → List ℕ → Option Target) : Type 0 where
  -- Names lead to nodes that are there.
  pub names_lead : (d : ℕ) (n : List ℕ) → IfSome (look d n) (λ t. IsSome t.kind)
  -- The root has no name and every other directory at most one.
  pub root_unnamed : (d : ℕ) (n : List ℕ) → IfSome (look d n) (λ t. ¬ (t.node ≡ 0))
  pub one_name : (d e : ℕ) (n m : List ℕ) (t : Target) → t.kind ≡ Some a_directory → look d n ≡ Some t → look e m ≡ Some t → (d ≡ e) × (n ≡ m)
  -- Directories lie on no cycle.
  pub no_cycle : (d : ℕ) → ¬ (Above look d d)
