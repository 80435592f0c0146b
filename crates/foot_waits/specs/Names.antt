-- A view of code: numbers that are given to names of directories.
use Rattle.std.specs.Prelude.{◌≡◌, ℕ, ◌<◌, ◌/◌, ◌%◌, List, [], ◌∷◌, Option, Some, None, if◌then◌else◌}
use Rattle.std.specs.Option.{IsSome}
use Rattle.std.specs.Str.{bytes_eq}

-- a directory's number in four bytes, and a name
abbrev pub name_key : ℕ → List ℕ → List ℕ
name_key d n = d / 16777216 ∷ d / 65536 % 256 ∷ d / 256 % 256 ∷ d % 256 ∷ n

-- the number of a key
abbrev pub number_at : List (List ℕ × ℕ) → List ℕ → Option ℕ
number_at [] q = None
number_at (e ∷ es) q = if bytes_eq q e.0 then Some e.1 else number_at es q

-- keys that have a number keep it
abbrev pub KeepsNumbers : List (List ℕ × ℕ) → List (List ℕ × ℕ) → Type 0
KeepsNumbers old new = (q : List ℕ) → IsSome (number_at old q) → number_at new q ≡ number_at old q

-- no two keys have one number
abbrev pub AreApart : List (List ℕ × ℕ) → Type 0
AreApart es = (p q : List ℕ) (i : ℕ) → number_at es p ≡ Some i → number_at es q ≡ Some i → p ≡ q

-- and all are below the next
pub record AreNumbered (es : List (List ℕ × ℕ)) (next : ℕ) : Type 0 where
  pub apart : AreApart es
  pub below : (q : List ℕ) (i : ℕ) → number_at es q ≡ Some i → i < next
