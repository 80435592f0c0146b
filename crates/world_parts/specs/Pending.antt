-- A helper: the paths that are listed, and those that names stand for which are still to be listed.
use Rattle.std.specs.Prelude.{◌≡◌, ℕ, T, List, [], ◌∷◌, ◌++◌, map}
use Rattle.std.specs.List.Sorted.{IsPermutation}
use Rattle.std.specs.Ordering.{nat_cmp}
use Rattle.std.specs.Cmp.Lexicographic.{slice_cmp}
use Rattle.std.specs.FinMap.Entries.{is_sorted}
use Rattle.file_tree.specs.Tree.{Tree}
use Rattle.world_parts.specs.declared.image.NameEntry.{NameEntry}
use Rattle.world_parts.specs.declared.imaging.Pending.{Pending}
use Rattle.world_parts.specs.Image.{paths_below}

-- a name's own path, and those below it
abbrev pub paths_of : Tree → Pending → List (List ℕ × ℕ)
paths_of tree p = (p.path.items, p.node) ∷ paths_below p.levels tree p.path.items p.node

-- those of all pending names, the last one's first
abbrev pub paths_pending : Tree → List Pending → List (List ℕ × ℕ)
paths_pending tree [] = []
paths_pending tree (p ∷ ps) = paths_pending tree ps ++ paths_of tree p

-- the new pending names stand for these paths, and then for those of the old ones
abbrev pub AddsPaths : Tree → List Pending → List Pending → List (List ℕ × ℕ) → Type 0
AddsPaths tree old new paths = paths_pending tree new ≡ paths ++ paths_pending tree old

-- the paths that a name of a directory stands for
abbrev pub paths_at : ℕ → Tree → List ℕ → List ℕ × ℕ → List (List ℕ × ℕ)
paths_at levels tree path e = (path ++ 47 ∷ e.0, e.1) ∷ paths_below levels tree (path ++ 47 ∷ e.0) e.1

-- the new pending names stand for these paths and for those of the old ones, in some order
abbrev pub AddsInSomeOrder : Tree → List Pending → List Pending → List (List ℕ × ℕ) → Type 0
AddsInSomeOrder tree old new paths = IsPermutation (paths ++ paths_pending tree old) (paths_pending tree new)

-- the paths that entries list, each with its node
abbrev pub paths_listed : List NameEntry → List (List ℕ × ℕ)
paths_listed es = map (λ (e : NameEntry). (e.path, e.node)) es

-- paths strictly rise
abbrev pub Rise : List (List ℕ × ℕ) → Type 0
Rise paths = T (is_sorted (slice_cmp nat_cmp) paths)
