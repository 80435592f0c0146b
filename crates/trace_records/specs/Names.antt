-- A view of code: the names so far, as the map that reading keeps.
use Rattle.std.specs.Prelude.{◌≡◌, ℕ, false, List, is_some, unwrap_or}
use Rattle.std.specs.List.{list_any}
use Rattle.trace_format.specs.Names.{Names, kind_at}
use Rattle.trace_records.specs.declared.start.Item.{Item}
use Rattle.trace_records.specs.Start.{has_name, is_directory_at}

-- the map has the names of the items, and says which are directories
pub record KnowsNames (names : Names) (items : List Item) : Type 0 where
  pub all : (p : List ℕ) → is_some (kind_at names p) ≡ has_name items p
  pub directories : (p : List ℕ) → unwrap_or (kind_at names p) false ≡ list_any (is_directory_at p) items
