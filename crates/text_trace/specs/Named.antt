-- A view of code: the numbers of items by their paths.
use Rattle.std.specs.Prelude.{◌≡◌, ℕ, List, Option, None, Some, Vec, if◌then◌else◌}
use Rattle.std.specs.Option.{option_or}
use Rattle.std.specs.Ordering.{nat_cmp}
use Rattle.std.specs.Cmp.Lexicographic.{slice_cmp}
use Rattle.std.specs.Str.{bytes_eq}
use Rattle.std.specs.BTreeMap.{BTreeMap, get_by}

-- the number of a path, where it is there
abbrev pub named : {Z : Type 0} → BTreeMap (Vec ℕ Z) ℕ → List ℕ → Option ℕ
named names path = get_by (λ k. slice_cmp nat_cmp path k.items) names

-- one name more, where the path is not there yet
abbrev pub KnowsOneMore : {Z : Type 0} → BTreeMap (Vec ℕ Z) ℕ → BTreeMap (Vec ℕ Z) ℕ → List ℕ → ℕ → Type 0
KnowsOneMore old new path number = (p : List ℕ) → named new p ≡ option_or (named old p) (if bytes_eq path p then Some number else None)
