-- The model: which bytes are a path, and which names and directories the items so far have.
use Rattle.std.specs.Prelude.{ℕ, ℤ, ◌==◌, Bool, true, false, ◌&&◌, ◌||◌, not, List, [], ◌∷◌, length, nat_le, if◌then◌else◌, codes, filter}
use Rattle.std.specs.List.{list_any, list_all, slice_split}
use Rattle.std.specs.Str.{bytes_eq}
use Rattle.trace_format.specs.declared.trace.Item.{Item}
use Rattle.trace_format.specs.declared.trace.Node.{Node}
use Rattle.trace_format.specs.declared.trace.Node.TheVariants.{Directory, File}

-- the runs of bytes between slashes
abbrev pub runs : List ℕ → List (List ℕ)
runs bytes = slice_split (λ b. b == 47) bytes

-- a name: 1 to 255 bytes, none of them zero, and neither of the two names that every directory has
abbrev pub is_name : List ℕ → Bool
is_name name =
    nat_le 1 (length name) && nat_le (length name) 255 && not (list_any (λ b. b == 0) name) && not (bytes_eq name (codes ".")) && not (bytes_eq name (codes ".."))

-- a slash before each name, and at most 4,095 bytes
abbrev pub is_path : List ℕ → Bool
is_path [] = false
is_path (b ∷ bs) = b == 47 && nat_le (length (b ∷ bs)) 4095 && list_all is_name (runs bs)

abbrev pub has_slash : List ℕ → Bool
has_slash bytes = list_any (λ b. b == 47) bytes

-- what stands before the last slash
abbrev pub parent_of : List ℕ → List ℕ
parent_of [] = []
parent_of (b ∷ bs) = if has_slash bs then b ∷ parent_of bs else []

abbrev pub is_directory : Node → Bool
is_directory Directory = true
is_directory _ = false

abbrev pub is_file : Node → Bool
is_file (File _ _) = true
is_file _ = false

-- the name is there
abbrev pub has_name : List Item → List ℕ → Bool
has_name earlier path = list_any (λ i. bytes_eq i.path path) earlier

abbrev pub is_directory_at : List ℕ → Item → Bool
is_directory_at path i = is_directory i.node && bytes_eq i.path path

-- the directory is there, the root with the empty path too
abbrev pub has_directory : List Item → List ℕ → Bool
has_directory earlier path = length path == 0 || list_any (is_directory_at path) earlier

-- the names of a path: its runs, without the empty ones
abbrev pub components : List ℕ → List (List ℕ)
components path = filter (λ run. not (length run == 0)) (runs path)

-- A path with the directory that a relative one starts at.
pub record Path : Type 0 where
  pub directory : ℤ
  pub text : List ℕ
