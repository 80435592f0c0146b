-- A law: a range that is cut and put back leaves the list as it was.
use Rattle.std.specs.Prelude.{◌≡◌, ℕ, ◌≤◌, List, length}
use Rattle.extent_bytes.specs.Bytes.{overwritten, zeroed, range_of}

-- Bytes with a range made zero, and its bytes put back, are as they were.
abbrev pub PutBackRestores : Type 0
PutBackRestores =
    (xs : List ℕ) (lo hi : ℕ) → lo ≤ hi → hi ≤ length xs →
    overwritten (zeroed xs lo hi) lo (range_of xs lo hi) ≡ xs
