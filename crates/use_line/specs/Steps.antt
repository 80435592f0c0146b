-- A view of code: a value for each number, or none, by the numbers at which another one begins.
use Rattle.std.specs.Prelude.{◌≡◌, ℕ, ◌<◌, Bool, true, false, ◌==◌, leb, List, [], ◌∷◌, Option, None, IfSome, if◌then◌else◌}
use Rattle.std.specs.List.{AllByRecursion, list_any}
use Rattle.use_line.specs.Spans.{within}

-- what stands at the last key up to a number
abbrev pub step_from : Option ℕ → List (ℕ × Option ℕ) → ℕ → Option ℕ
step_from before [] b = before
step_from before (e ∷ es) b = if leb e.0 b then step_from e.1 es b else before

abbrev pub step_at : List (ℕ × Option ℕ) → ℕ → Option ℕ
step_at es b = step_from None es b

abbrev pub has_key : List (ℕ × Option ℕ) → ℕ → Bool
has_key es k = list_any (λ e. e.0 == k) es

-- no key stands between two
abbrev pub NoneInside : ℕ → ℕ → List (ℕ × Option ℕ) → Type 0
NoneInside low high es = (k : ℕ) → low < k → k < high → has_key es k ≡ false

-- the keys rise
abbrev pub Rises : List (ℕ × Option ℕ) → Type 0
Rises [] = Unit {0}
Rises (e ∷ es) = AllByRecursion (λ q. e.0 < q.0) es × Rises es

-- all numbers of a range have one value
abbrev pub IsLevel : List (ℕ × Option ℕ) → ℕ → ℕ → Type 0
IsLevel es low high = (b : ℕ) → within low high b ≡ true → step_at es b ≡ step_at es low

-- the numbers of a range have one value then, and the others what they had
abbrev pub HasSet : List (ℕ × Option ℕ) → List (ℕ × Option ℕ) → ℕ → ℕ → Option ℕ → Type 0
HasSet old new low high v = (b : ℕ) → step_at new b ≡ (if within low high b then v else step_at old b)

-- the numbers of a range have what they have there, and the others nothing
abbrev pub IsCopy : List (ℕ × Option ℕ) → List (ℕ × Option ℕ) → ℕ → ℕ → Type 0
IsCopy of copy low high = (b : ℕ) → step_at copy b ≡ (if within low high b then step_at of b else None)

-- each value is below a number
abbrev pub AllBelow : List (ℕ × Option ℕ) → ℕ → Type 0
AllBelow es n = (b : ℕ) → IfSome (step_at es b) (λ i. i < n)
