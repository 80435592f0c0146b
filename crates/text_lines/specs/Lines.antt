-- The model: the first line of a text, and what a reader adds to the bytes that are held of one. At the end, a view of code: the place that is kept of the first line feed.
use Rattle.std.specs.Prelude.{◌≡◌, ◌==◌, ◌<◌, ◌≤◌, ◌+◌, ◌++◌, ℕ, Bool, true, false, List, [], is_some, length, drop, Option, None, Some, if◌then◌else◌}
use Rattle.std.specs.Io.KnownBytes.{Consumes, IsAtEnd}
use Rattle.std.specs.List.{before_first, list_any, position_or_len}

-- what stands before the first line feed, where there is one
abbrev pub first_line : List ℕ → Option (List ℕ)
first_line text = if list_any (λ b. b == 10) text then Some (before_first (λ b. b == 10) text) else None

-- some bytes came behind those that are held, or none, where the reader is at its end
abbrev pub Gains : Bool → List ℕ → List ℕ → Option (List ℕ) → Option (List ℕ) → Type 0
Gains true rest rest' left left' = (more : List ℕ) × Consumes left left' more × (rest' ≡ rest ++ more) × (0 < length more)
Gains false rest rest' left left' = (rest' ≡ rest) × Consumes left left' [] × IsAtEnd left'

-- bytes came behind until there is a line that is whole, or until the reader is at its end
abbrev pub ReadsLine : Bool → List ℕ → List ℕ → Option (List ℕ) → Option (List ℕ) → Type 0
ReadsLine true rest rest' left left' = (more : List ℕ) × Consumes left left' more × (rest' ≡ rest ++ more) × (is_some (first_line rest') ≡ true)
ReadsLine false rest rest' left left' = (more : List ℕ) × Consumes left left' more × (rest' ≡ rest ++ more) × (first_line rest' ≡ None) × IsAtEnd left'

-- what is held, and all that the reader had left
abbrev pub ReadsAll : List ℕ → Option (List ℕ) → Option (List ℕ) → List ℕ → Type 0
ReadsAll rest left left' all = (more : List ℕ) × Consumes left left' more × IsAtEnd left' × (all ≡ rest ++ more)

-- the place of the first line feed behind the first bytes, or the end
abbrev pub IsFeedFrom : ℕ → List ℕ → ℕ → Type 0
IsFeedFrom used bytes place = (used ≤ length bytes) × (place ≡ used + position_or_len (λ b. b == 10) (drop used bytes))
