-- A helper: what each step tells its seat.
use Rattle.std.specs.Prelude.{◌≡◌, ℕ, ◌<◌, ◌≤◌, ◌⊎◌, [], ◌∷◌, length, Some, slice_get}
use Rattle.atomic_table.specs.Table.{Me, Step}
use Rattle.deal_desk.specs.declared.hand.Hand.{Hand}
use Rattle.deal_desk.specs.declared.job.Slot.{Slot}
use Rattle.deal_desk.specs.declared.job.Slot.TheVariants.{Waiting, Taken, Finished}
use Rattle.deal_desk.specs.Hands.{drew, ran_dry, put_back, Knows}

-- what a seat knows, and the slots that are out with it
abbrev pub Mine : Type 0 → Type 0 → Type 0
Mine T D = Me (Slot T D) (Hand T D)

module _ {T D : Type 0} where
  -- the place whose number was found is out with the seat, with its job; or that number was past all places, and the seat is dry
  abbrev pub Drew : Mine T D → ℕ → Mine T D → Type 0
  Drew m found n =
      ((found < length m.0.jobs) × ((job : T) × (slice_get m.0.jobs found ≡ Some job) × (n ≡ (drew found m.0, (found, Waiting job) ∷ m.1)) × Knows n.0))
      ⊎ ((length m.0.jobs ≤ found) × (n ≡ (ran_dry m.0, m.1)) × Knows n.0)

  -- what a draw tells
  abbrev pub draws : Step (Slot T D) → Mine T D → ℕ → Mine T D → Type 0
  draws s m found n = Drew m found n

  -- the seat once the slot that it has out went home with its result
  abbrev pub finished : Mine T D → Mine T D
  finished (v, []) = (v, [])
  finished (v, (k, Waiting job) ∷ xs) = (v, xs)
  finished (v, (k, Taken) ∷ xs) = (v, xs)
  finished (v, (k, Finished d) ∷ xs) = (put_back k d v, xs)

  -- what the step tells by which a slot goes home with its result
  abbrev pub finishes : Step (Slot T D) → Mine T D → ℕ → Mine T D → Type 0
  finishes s m found n = (n ≡ finished m) × Knows n.0

  -- what a look tells: nothing changed
  abbrev pub looks : Step (Slot T D) → Mine T D → ℕ → Mine T D → Type 0
  looks s m found n = (n ≡ m) × Knows n.0
