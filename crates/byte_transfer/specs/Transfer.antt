-- The model: what a reader has left and what a writer holds, where they tell it, around one call and around many.
use Rattle.std.specs.Prelude.{◌≡◌, ℕ, ◌<◌, ◌≤◌, ◌++◌, Bool, false, nat_lt, List, length, take, Option, Result, Ok, Err}
use Rattle.std.specs.Io.KnownBytes.{Appends, Consumes}

-- the known bytes grew by the first bytes of the output, perhaps by none, but not by all
abbrev pub AppendsPart : Option (List ℕ) → Option (List ℕ) → List ℕ → Type 0
AppendsPart old new output = (n : ℕ) × (n < length output) × Appends old new (take n output)

-- the same, perhaps by all
abbrev pub AppendsSome : Option (List ℕ) → Option (List ℕ) → List ℕ → Type 0
AppendsSome old new output = (n : ℕ) × (n ≤ length output) × Appends old new (take n output)

-- the known bytes lost their first bytes, perhaps none
abbrev pub Takes : Option (List ℕ) → Option (List ℕ) → Type 0
Takes old new = (bytes : List ℕ) × Consumes old new bytes

-- the known bytes lost their first bytes, at most so many
abbrev pub ConsumesUpTo : ℕ → Option (List ℕ) → Option (List ℕ) → Type 0
ConsumesUpTo most old new = (bytes : List ℕ) × Consumes old new bytes × (length bytes ≤ most)

-- the text, and behind it the bytes that were lost
abbrev pub GoesOn : List ℕ → Option (List ℕ) → Option (List ℕ) → List ℕ → Type 0
GoesOn text old new all = (bytes : List ℕ) × Consumes old new bytes × (all ≡ text ++ bytes)

-- whether a write took something: an error and a write of no bytes are failures
abbrev pub took_some : {E : Type 0} → Result ℕ E → Bool
took_some (Ok n) = nat_lt 0 n
took_some (Err e) = false
