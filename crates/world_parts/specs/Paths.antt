-- A law: which paths an image lists, those whose walks lead to a node.
use Rattle.std.specs.Prelude.{◌≡◌, ℕ, negsuc, Bool, ◌&&◌, not, nat_le, T, List, [], ◌∷◌, ◌++◌, length, map, Option, Some, None, IfSome, Result, Ok, Err}
use Rattle.std.specs.List.{Contains}
use Rattle.std.specs.Ordering.{nat_cmp}
use Rattle.std.specs.Cmp.Lexicographic.{slice_cmp}
use Rattle.std.specs.FinMap.Entries.{is_sorted}
use Rattle.sqe_codec.specs.declared.errno.Errno.{Errno}
use Rattle.trace_format.specs.Paths.{components, has_slash}
use Rattle.file_tree.specs.Found.{node_of}
use Rattle.file_tree.specs.Walk.{Place, fits_name, walk}
use Rattle.world_parts.specs.World.{World, IsWorld, name}
use Rattle.recording.specs.declared.recording.Recording.{Recording}
use Rattle.world_parts.specs.Image.{image_of, name_entry}
use Rattle.world_parts.specs.Start.{start}
use Rattle.world_parts.specs.declared.image.NameEntry.{NameEntry}

-- The path of names: a slash before each.
abbrev pub path_of : List (List ℕ) → List ℕ
path_of [] = []
path_of (n ∷ ns) = 47 ∷ n ++ path_of ns

-- A full path has one slash before each of its names, none of which is empty.
abbrev pub IsFull : List ℕ → Type 0
IsFull path = path_of (components path) ≡ path

-- The number of the node that a walk has come to, if any.
abbrev pub come_to : Result Place Errno → Option ℕ
come_to (Ok p) = node_of p.target
come_to (Err e) = None

-- The number of the node that a path leads to at the working directory.
abbrev pub led_to : World → List ℕ → Option ℕ
led_to s path = come_to (walk s.nodes (record { directory = negsuc 99; text = path }))

-- A name has 1 to 255 bytes, none of which is a slash.
abbrev pub is_file_name : List ℕ → Bool
is_file_name n = nat_le 1 (length n) && (fits_name n && not (has_slash n))

-- A world all of whose names are such names.
abbrev pub HasFileNames : World → Type 0
HasFileNames s = (d : ℕ) (n : List ℕ) → IfSome (name s d n) (λ t. T (is_file_name n))

-- The image lists a path with a node, and of a file with its size.
abbrev pub Lists : World → List ℕ → ℕ → Type 0
Lists s path i = Contains (image_of s).names (name_entry s.nodes (path, i))

-- A full path whose walk leads to a node.
abbrev pub IsPathTo : World → List ℕ → ℕ → Type 0
IsPathTo s path i = IsFull path × (led_to s path ≡ Some i)

-- A path is listed with a node exactly where it is full and its walk leads to that node.
abbrev pub ListsItsPaths : Type 0
ListsItsPaths = (s : World) → IsWorld s → HasFileNames s → (path : List ℕ) (i : ℕ) → (Lists s path i → IsPathTo s path i) × (IsPathTo s path i → Lists s path i)

-- The listed paths strictly rise: each stands there once.
abbrev pub ListsEachPathOnce : Type 0
ListsEachPathOnce = (s : World) → T (is_sorted (slice_cmp nat_cmp) (map (λ (e : NameEntry). (e.path, e.node)) (image_of s).names))

-- The world that a trace starts with is such a world.
abbrev pub StartsHaveFileNames : Type 0
StartsHaveFileNames = (t : Recording) → HasFileNames (start t)
