-- A helper: names in directories whose paths are walked no more.
use Rattle.std.specs.Prelude.{◌≡◌, ℕ, false, ◌==◌, ◌≤◌, true, List, [], ◌∷◌, ◌++◌, All, length, Option, Some, None, Ok, IfSome, if◌then◌else◌}
use Rattle.std.specs.Ordering.{nat_cmp}
use Rattle.std.specs.Cmp.Lexicographic.{slice_cmp}
use Rattle.std.specs.Borrow.{Bor}
use Rattle.std.specs.BTreeMap.{BTreeMap, get_by}
use Rattle.trace_format.specs.Paths.{components}
use Rattle.file_tree.specs.Tree.{Tree, name}
use Rattle.file_tree.specs.Found.{node_of}
use Rattle.file_tree.specs.Walk.{fits_name, directory_at}

-- directories, by paths that lead to them
abbrev pub Known : Type 0
Known = BTreeMap (Bor (List ℕ)) ℕ

abbrev pub known_at : Known → List ℕ → Option ℕ
known_at known path = get_by (λ k. slice_cmp nat_cmp path k.now) known

-- the directory that a path is known to lead to, the root with the empty path too
abbrev pub directory_of : Known → List ℕ → Option ℕ
directory_of known path = if length path == 0 then Some 0 else known_at known path

-- names lead from one directory, through others, to another
abbrev pub Enters : Tree → ℕ → List (List ℕ) → ℕ → Type 0
Enters tree d [] e = d ≡ e
Enters tree d (n ∷ ns) e = (f : ℕ) × (fits_name n ≡ true) × (directory_at (name tree d n) ≡ Ok f) × Enters tree f ns e

-- what is known is so
abbrev pub Knows : Tree → Known → Type 0
Knows tree known = (path : List ℕ) → IfSome (known_at known path) (Enters tree 0 (components path))

-- a name of 1 to 255 bytes without slashes
abbrev pub IsLastName : List ℕ → Type 0
IsLastName n = All (λ b. (b == 47) ≡ false) n × (1 ≤ length n) × (length n ≤ 255)

-- a path that leads to a name which its directory hasn't yet
pub record IsNewPlace (tree : Tree) (path : List ℕ) (parent : ℕ) (n : List ℕ) : Type 0 where
  pub way : List (List ℕ)
  pub names : components path ≡ way ++ n ∷ []
  pub enters : Enters tree 0 way parent
  pub fits : fits_name n ≡ true
  pub is_new : node_of (name tree parent n) ≡ None
