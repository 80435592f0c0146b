-- A view of code: where two lists of replies first differ, looked for part by part.
use Rattle.std.specs.Prelude.{◌≡◌, ℕ, zero, suc, ◌<◌, List, Option, MatchOption, length, take, slice_index, slice_index_or}
use Rattle.op_meaning.specs.declared.reply.Reply.{Reply}
use Rattle.replay_core.specs.Comparing.{IsFirstDifference}

-- what is found between two places, where both lists are the same up to the first: nothing, if they are the same up to the second, or where they first differ
abbrev pub IsFoundWithin : List Reply → List Reply → ℕ → ℕ → Option ℕ → Type 0
IsFoundWithin one other from to found = take from one ≡ take from other → MatchOption found (take to one ≡ take to other) (λ k. IsFirstDifference one other k)

-- where a part begins, given where each ends: the first one at the start, and any other where the one before it ends
abbrev pub start_of : List ℕ → ℕ → ℕ
start_of ends zero = 0
start_of ends (suc number) = slice_index ends number

-- what is found in each part
abbrev pub AreFoundWithin : List Reply → List Reply → List ℕ → List (Option ℕ) → Type 0
AreFoundWithin one other ends found =
    (number : ℕ) (none : Option ℕ) → number < length found → IsFoundWithin one other (start_of ends number) (slice_index ends number) (slice_index_or found number none)
