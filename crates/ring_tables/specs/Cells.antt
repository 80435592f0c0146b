-- A view of code: the cells in which slots of low numbers are looked up first.
use Rattle.std.specs.Prelude.{◌≡◌, ℕ, ◌+◌, ◌*◌, ◌&&◌, ltb, List, Option, None, Some, get_or, if◌then◌else◌}
use Rattle.finite_maps.specs.Table.{Table, get, pair_cmp}

-- The number of a slot's cell. The first 64 slots of the first 512 rings have one.
abbrev pub cell : ℕ → ℕ → Option ℕ
cell ring slot = if ltb ring 512 && ltb slot 64 then Some (ring * 64 + slot) else None

-- A cell that is not empty has what its slot holds.
abbrev pub AreHeld : Table pair_cmp ℕ → List (Option ℕ) → Type 0
AreHeld slots cells = (ring slot c number : ℕ) → cell ring slot ≡ Some c → get_or cells c None ≡ Some number → get slots (ring, slot) ≡ Some number
