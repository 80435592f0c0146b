-- A view of code: where each step of a list of records stands, by the number of its record and the place of that record's first step.
use Rattle.std.specs.Prelude.{ℕ, suc, ◌+◌, List, [], ◌∷◌, ◌++◌, replicate}
use Rattle.trace_format.specs.declared.trace.Record.{Record}
use Rattle.trace_format.specs.Counts.{step_count}

-- of each step the number of its record, where records are numbered from n
abbrev pub numbers_from : ℕ → List Record → List ℕ
numbers_from n [] = []
numbers_from n (r ∷ rs) = replicate (step_count r) n ++ numbers_from (suc n) rs

-- of each record the place of its first step, where places are numbered from p
abbrev pub firsts_from : ℕ → List Record → List ℕ
firsts_from p [] = []
firsts_from p (r ∷ rs) = p ∷ firsts_from (p + step_count r) rs
