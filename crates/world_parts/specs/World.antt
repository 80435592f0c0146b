-- The model: the state of a replay, which is the file tree, the open file descriptions, the registered files and buffers, the descriptors, and the chains that broke.
use Rattle.std.specs.Prelude.{◌≡◌, ℕ, Bool, ◌≤◌, List, [], ◌∷◌, Option, Some, IfSome, IsSome}
use Rattle.std.specs.Option.{option_map}
use Rattle.std.specs.Ordering.{nat_cmp}
use Rattle.trace_format.specs.declared.trace.Access.{Access}
pub use Rattle.trace_format.specs.declared.trace.Description.{Description}
use Rattle.finite_maps.specs.Table.{Table, get, insert, assign, adjust_number, number_keys, pair_keys, pair_cmp}
use Rattle.extent_bytes.specs.Bytes.{overwritten, overlaid, resized, zeroed}
use Rattle.file_tree.specs.Tree.{Tree, Names, Kind, a_directory, Target, IsTree, new_node, renamed_node, rewritten_node}
use Rattle.file_tree.specs.Tree as tree
pub use Rattle.file_tree.specs.Found.{node_of}
use Rattle.entry_checks.specs.Operation.{file_limit}

-- A chain that a failure broke: loud where its canceled members post, quiet where they don't.
pub data Broken : Type 0 where
  loud : Broken
  quiet : Broken

-- Keys: nodes and descriptions by number; slots and buffers by ring and index; chains by their numbers.
-- An empty slot, an empty descriptor and a running chain have no entry.
pub record World : Type 0 where
  pub nodes : Tree
  pub descriptions : Table nat_cmp Description
  pub slots : Table pair_cmp ℕ
  pub descriptors : Table nat_cmp ℕ
  pub buffers : Table pair_cmp (List ℕ)
  pub broken : Table nat_cmp Broken

-- Look-ups.

-- The kind of a node; the names of a directory; the bytes of a file.
abbrev pub kind : World → ℕ → Option Kind
kind s i = tree.kind s.nodes i

abbrev pub names : World → ℕ → Option Names
names s i = tree.names s.nodes i

abbrev pub bytes : World → ℕ → Option (List ℕ)
bytes s i = tree.bytes s.nodes i

-- What a name of a directory leads to; how many names it has, and how many of them aren't shown.
abbrev pub name : World → ℕ → List ℕ → Option Target
name s d n = tree.name s.nodes d n

abbrev pub name_count : World → ℕ → Option ℕ
name_count s d = tree.name_count s.nodes d

abbrev pub others : World → ℕ → Option ℕ
others s d = tree.others s.nodes d

-- The size of a file, and the byte at an offset: zero past the size, and where there is no file.
abbrev pub size : World → ℕ → Option ℕ
size s i = tree.size s.nodes i

abbrev pub byte : World → ℕ → ℕ → ℕ
byte s i p = tree.byte s.nodes i p

-- What is opened, apart from its position: the node with its kind, the access and the append flag.
pub record Opened : Type 0 where
  pub target : Target
  pub access : Access
  pub append : Bool

abbrev pub opened_by : World → Description → Opened
opened_by s d = record { target = tree.target s.nodes d.node; access = d.access; append = d.append }

abbrev pub opened : World → ℕ → Option Opened
opened s d = option_map (opened_by s) (get s.descriptions d)

abbrev pub position : World → ℕ → Option ℕ
position s d = option_map (λ e. e.position) (get s.descriptions d)

abbrev pub slot : World → ℕ → ℕ → Option ℕ
slot s r n = get s.slots (r, n)

abbrev pub descriptor : World → ℕ → Option ℕ
descriptor s n = get s.descriptors n

abbrev pub buffer : World → ℕ → ℕ → Option (List ℕ)
buffer s r b = get s.buffers (r, b)

abbrev pub broken : World → ℕ → Option Broken
broken s c = get s.broken c

-- Changes of a world. Each leaves everything else as it was. A name is set to a node of a known kind, and a description is made of one.
pub data Change : Type 0 where
  set_name : (directory : ℕ) (name : List ℕ) (target : Option Target) → Change
  make_node : (node : ℕ) (kind : Kind) → Change
  set_slot : (ring slot : ℕ) (description : Option ℕ) → Change
  set_descriptor : (number : ℕ) (description : Option ℕ) → Change
  make_description : (number : ℕ) (opened : Opened) → Change
  set_position : (description position : ℕ) → Change
  set_size : (node size : ℕ) → Change
  write_bytes : (node offset : ℕ) (bytes : List ℕ) → Change
  zero_bytes : (node low high : ℕ) → Change
  write_buffer : (ring buffer offset : ℕ) (bytes : List ℕ) → Change
  break_chain : (chain : ℕ) (broken : Broken) → Change

-- A new description, at position 0.
abbrev pub new_description : Opened → Description
new_description o = record { node = o.target.node; access = o.access; append = o.append; position = 0 }

-- The world after a change.
abbrev pub apply : Change → World → World
apply (set_name d n x) s = record s { nodes = adjust_number (renamed_node n (node_of x)) s.nodes d }
apply (make_node i k) s = record s { nodes = insert number_keys.total s.nodes i (new_node k) }
apply (set_slot r n d) s = record s { slots = assign pair_keys.total s.slots (r, n) d }
apply (set_descriptor n d) s = record s { descriptors = assign number_keys.total s.descriptors n d }
apply (make_description n o) s = record s { descriptions = insert number_keys.total s.descriptions n (new_description o) }
apply (set_position d p) s = record s { descriptions = adjust_number (λ e. record e { position = p }) s.descriptions d }
apply (set_size i n) s = record s { nodes = adjust_number (rewritten_node (λ bs. resized bs n)) s.nodes i }
apply (write_bytes i at new) s = record s { nodes = adjust_number (rewritten_node (λ bs. overwritten bs at new)) s.nodes i }
apply (zero_bytes i low high) s = record s { nodes = adjust_number (rewritten_node (λ bs. zeroed bs low high)) s.nodes i }
apply (write_buffer r b at new) s = record s { buffers = assign pair_keys.total s.buffers (r, b) (option_map (λ bs. overlaid bs at new) (buffer s r b)) }
apply (break_chain c f) s = record s { broken = insert number_keys.total s.broken c f }

-- The world after changes, the first one first.
abbrev pub apply_all : List Change → World → World
apply_all [] s = s
apply_all (c ∷ cs) s = apply_all cs (apply c s)

-- A world of the replay. The root is directory 0.
pub record IsWorld (s : World) : Type 0 where
  pub root : kind s 0 ≡ Some a_directory
  pub tree : IsTree (name s)
  -- Open file descriptions lead to nodes that are there, slots and descriptors to descriptions that are there.
  pub descriptions_lead : (d : ℕ) → IfSome (opened s d) (λ o. IsSome o.target.kind)
  pub slots_lead : (r n : ℕ) → IfSome (slot s r n) (λ d. IsSome (opened s d))
  pub descriptors_lead : (n : ℕ) → IfSome (descriptor s n) (λ d. IsSome (opened s d))
  -- Files are at most 2^40 bytes long.
  pub files_fit : (i : ℕ) → IfSome (size s i) (λ n. n ≤ file_limit)
  -- A directory is only opened to read.
  pub directories_are_read : (d : ℕ) → IfSome (opened s d) (λ o. o.target.kind ≡ Some a_directory → o.access ≡ Access.Read)
  -- A whole world shows all names.
  pub all_shown : (d : ℕ) → IfSome (others s d) (λ n. n ≡ 0)
