-- A view of code: a name of few bytes, as sixteen bytes.
use Rattle.std.specs.Prelude.{◌≡◌, ℕ, zero, suc, ◌≤◌, List, [], ◌∷◌, length, take, slice_index}

-- so many bytes of a name, zeros where it has fewer, and a number behind them
abbrev pub padded : ℕ → List ℕ → ℕ → List ℕ
padded zero name n = n ∷ []
padded (suc w) [] n = 0 ∷ padded w [] n
padded (suc w) (b ∷ bs) n = b ∷ padded w bs n

-- a name of at most fifteen bytes: these, filled up with zeros, and how many they are
abbrev pub filled : List ℕ → List ℕ
filled name = padded 15 name (length name)

-- the name of which these are the sixteen bytes
abbrev pub name_in : List ℕ → List ℕ
name_in bytes = take (slice_index bytes 15) bytes

-- bytes that a name of at most fifteen has
abbrev pub AreFilled : List ℕ → Type 0
AreFilled bytes = (length (name_in bytes) ≤ 15) × (bytes ≡ filled (name_in bytes))
