-- A view of code: how many descriptors of each block are known to be taken.
use Rattle.std.specs.Prelude.{◌≡◌, ◌<◌, ◌/◌, ◌%◌, ℕ, List, false, get_or, is_none}
use Rattle.std.specs.Ordering.{nat_cmp}
use Rattle.finite_maps.specs.Table.{Table, get}

-- How many numbers of a number's block, from its first one on, are known to be taken. A block has 256.
abbrev pub front_at : List ℕ → ℕ → ℕ
front_at fronts n = get_or fronts (n / 256) 0

-- The numbers in front are taken.
abbrev pub AreTaken : Table nat_cmp ℕ → List ℕ → Type 0
AreTaken descriptors fronts = (n : ℕ) → n % 256 < front_at fronts n → is_none (get descriptors n) ≡ false
