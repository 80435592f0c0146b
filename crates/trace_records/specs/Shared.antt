-- A view of code: memory that what is read may share.
use Rattle.std.specs.Prelude.{ℕ, ◌≡◌, ◌-◌, List, length, drop}

-- the bytes are the last ones of the text
abbrev pub IsEndOf : List ℕ → List ℕ → Type 0
IsEndOf text bytes = drop (length text - length bytes) text ≡ bytes
