-- The model: numbers as words.
use Rattle.std.specs.Prelude.{ℕ, false, List, ◌∷◌, ◌++◌, codes}
use Rattle.std.specs.Fmt.{digits}

-- in base 16, behind 0x
abbrev pub hexadecimal : ℕ → List ℕ
hexadecimal n = codes "0x" ++ digits 16 false n

-- in base 8, behind 0
abbrev pub octal : ℕ → List ℕ
octal n = 48 ∷ digits 8 false n
