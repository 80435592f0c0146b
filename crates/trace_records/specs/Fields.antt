-- The model: numbers that are read within bounds, and where the last of a list ends.
use Rattle.std.specs.Prelude.{ℕ, ◌&&◌, List, [], ◌∷◌, nat_le, nat_lt}
use Rattle.std.specs.Int.{Width}
use Rattle.trace_format.specs.declared.fault.Kind.TheVariants.{Limit, Reference}
use Rattle.trace_format.specs.Grammar.{Grammar, Done, Place, Test, ◌>>=◌, fault, number}

-- a number from low on and below end
abbrev pub number_in : Width → ℕ → ℕ → Grammar ℕ
number_in w low end = do
  place ← Place
  n ← number w
  _ ← Test (nat_le low n && nat_lt n end) (fault Limit place)
  Done n

-- the number of one of so many
abbrev pub number_of : Width → ℕ → Grammar ℕ
number_of w count = do
  place ← Place
  n ← number w
  _ ← Test (nat_lt n count) (fault Reference place)
  Done n

-- where the last one ends; low where there is none
abbrev pub end_of : {X : Type 0} → (X → ℕ) → ℕ → List X → ℕ
end_of end low [] = low
end_of end low (x ∷ xs) = end_of end (end x) xs
