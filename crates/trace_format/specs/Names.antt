-- A view of code: the names so far, as the map that reading keeps.
use Rattle.std.specs.Prelude.{◌≡◌, ℕ, Bool, false, List, Option, Some, is_some, unwrap_or, if◌then◌else◌}
use Rattle.std.specs.List.{list_any}
use Rattle.std.specs.Ordering.{nat_cmp}
use Rattle.std.specs.Cmp.Lexicographic.{slice_cmp}
use Rattle.std.specs.Str.{bytes_eq}
use Rattle.std.specs.Borrow.{Bor}
use Rattle.std.specs.BTreeMap.{BTreeMap, get_by}
use Rattle.trace_format.specs.declared.trace.Item.{Item}
use Rattle.trace_format.specs.Paths.{has_name, is_directory_at}

-- names, and whether each is a directory's
abbrev pub Names : Type 0
Names = BTreeMap (Bor (List ℕ)) Bool

-- whether a name is a directory's, where it is there
abbrev pub kind_at : Names → List ℕ → Option Bool
kind_at names path = get_by (λ k. slice_cmp nat_cmp path k.now) names

-- one name more
abbrev pub AddsName : Names → Names → List ℕ → Bool → Type 0
AddsName old new path is_directory = (p : List ℕ) → kind_at new p ≡ (if bytes_eq path p then Some is_directory else kind_at old p)

-- the map has the names of the items, and says which are directories
pub record KnowsNames (names : Names) (items : List Item) : Type 0 where
  pub all : (p : List ℕ) → is_some (kind_at names p) ≡ has_name items p
  pub directories : (p : List ℕ) → unwrap_or (kind_at names p) false ≡ list_any (is_directory_at p) items
