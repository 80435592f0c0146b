-- A view of code: ranges of numbers, as a set of them keeps them.
use Rattle.std.specs.Prelude.{ℕ, ◌<◌, Bool, leb, ltb, List, [], ◌∷◌, filter}
use Rattle.std.specs.List.{AllByRecursion, list_any}
use Rattle.world_parts.specs.Items.{ranges_meet, within}

-- whether a number lies in one of the ranges
abbrev pub covers : List (ℕ × ℕ) → ℕ → Bool
covers rs p = list_any (λ r. within r.0 r.1 p) rs

-- whether one of the ranges shares a number with a range
abbrev pub crosses : List (ℕ × ℕ) → ℕ → ℕ → Bool
crosses rs from to = list_any (λ r. ranges_meet r.0 r.1 from to) rs

-- whether one of the ranges has a number
abbrev pub has_some : List (ℕ × ℕ) → Bool
has_some rs = list_any (λ r. ltb r.0 r.1) rs

-- the ranges that have begun by a number
abbrev pub begun : ℕ → List (ℕ × ℕ) → List (ℕ × ℕ)
begun limit rs = filter (λ r. leb r.0 limit) rs

-- the ranges rise, none is empty, and a gap follows each
abbrev pub AreApart : List (ℕ × ℕ) → Type 0
AreApart [] = Unit {0}
AreApart (r ∷ rs) = (r.0 < r.1) × AllByRecursion (λ q. r.1 < q.0) rs × AreApart rs
