-- The lengths of a vector, and the places of records, one after the other.
use Rattle.std.proofs.Common.{◌≡◌, ℕ, suc, ◌-◌, ◌+◌, ◌<◌, List, [], ◌∷◌, ◌++◌, take, drop, refl, arith}
use Rattle.std.specs.Int.{w64, from_le_bytes}
use Rattle.trace_format.specs.declared.trace.Record.{Record}
use Rattle.std.proofs.lemmas.Grind.{common_steps}
use Rattle.trace_format.specs.Sides.{total, lengths_in}
use Rattle.trace_format.specs.Counts.{places_in}

-- the next length, and those after it
pub total-next : (n i : ℕ) (rest : List ℕ) → i < n → total (lengths_in (n - i) rest) ≡ from_le_bytes w64 (take 8 rest) + total (lengths_in (n - (i + 1)) (drop 8 rest))
total-next n i rest lt =
    let k : n - i ≡ suc (n - (i + 1)) = omega arith in
    rw k refl

-- one length more of a vector
pub ruleset one_length_more = (common_steps, total-next)

pub places_in-push : (xs : List Record) (x : Record) → places_in (xs ++ x ∷ []) ≡ places_in xs + places_in (x ∷ [])
places_in-push [] x = omega arith
places_in-push (r ∷ xs) x = omega (arith, places_in-push xs x)
