-- The model: what a seat knows, and how that changes.
use Rattle.std.specs.Prelude.{◌≡◌, ℕ, Bool, ◌+◌, ◌≤◌, nat_lt, true, false, ◌||◌, ◌==◌, if◌then◌else◌, List, [], ◌∷◌, ◌++◌, map, length, count_by, option_to_list, Some, None}
use Rattle.deal_desk.specs.declared.hand.Hand.{Hand}

-- how often x stands in the list
abbrev pub times : ℕ → List ℕ → ℕ
times x xs = count_by (λ y. y == x) xs

-- 1 for a number below n, else 0
abbrev pub once_below : ℕ → ℕ → ℕ
once_below x n = if nat_lt x n then 1 else 0

-- each number below n stands in the list once, and nothing else
abbrev pub IsDeal : ℕ → List ℕ → Type 0
IsDeal n xs = (x : ℕ) → times x xs ≡ once_below x n

-- each number of the list stands in it once, and is below n
abbrev pub IsPartOfDeal : ℕ → List ℕ → Type 0
IsPartOfDeal n xs = (x : ℕ) → times x xs ≤ once_below x n

module _ {T D : Type 0} where
  -- what the opening seat knows at the start
  abbrev pub opening_hand : List T → Hand T D
  opening_hand jobs = record { jobs = jobs; opens = true; live = true; out = None; back = []; dry = false; given = 0; merged = 0 }

  -- what a further seat knows at the start
  abbrev pub further_hand : List T → Hand T D
  further_hand jobs = record { jobs = jobs; opens = false; live = true; out = None; back = []; dry = false; given = 0; merged = 0 }

  -- what is left of a seat that another has taken in
  abbrev pub spent_hand : Hand T D
  spent_hand = record { jobs = []; opens = false; live = false; out = None; back = []; dry = false; given = 0; merged = 0 }

  -- it has given one more seat
  abbrev pub gave : Hand T D → Hand T D
  gave v = record { jobs = v.jobs; opens = v.opens; live = v.live; out = v.out; back = v.back; dry = v.dry; given = v.given + 1; merged = v.merged }

  -- the place k is out with it
  abbrev pub drew : ℕ → Hand T D → Hand T D
  drew k v = record { jobs = v.jobs; opens = v.opens; live = v.live; out = Some k; back = v.back; dry = v.dry; given = v.given; merged = v.merged }

  -- it has found all jobs dealt
  abbrev pub ran_dry : Hand T D → Hand T D
  ran_dry v = record { jobs = v.jobs; opens = v.opens; live = v.live; out = v.out; back = v.back; dry = true; given = v.given; merged = v.merged }

  -- the place k is back with the result d
  abbrev pub put_back : ℕ → D → Hand T D → Hand T D
  put_back k d v = record { jobs = v.jobs; opens = v.opens; live = v.live; out = None; back = v.back ++ (k, d) ∷ []; dry = v.dry; given = v.given; merged = v.merged }

  -- it has taken in the seat that knows w
  abbrev pub took_in : Hand T D → Hand T D → Hand T D
  took_in v w = record { jobs = v.jobs; opens = v.opens; live = v.live; out = v.out; back = v.back ++ w.back; dry = v.dry || w.dry; given = v.given; merged = (v.merged + w.merged) + 1 }

  -- it opens the desk or not, and has given and merged so many seats
  abbrev pub HasSeats : Bool → ℕ → ℕ → Hand T D → Type 0
  HasSeats opens given merged v = (v.opens ≡ opens) × (v.given ≡ given) × (v.merged ≡ merged)

  -- the places that it has put back
  abbrev pub places_back : Hand T D → List ℕ
  places_back v = map (λ x. x.0) v.back

  -- the places that it has drawn
  abbrev pub places : Hand T D → List ℕ
  places v = option_to_list v.out ++ places_back v

  -- the opening seat, which has merged as many seats as it has given, and has found all jobs dealt
  abbrev pub IsLast : Hand T D → Type 0
  IsLast v = (v.opens ≡ true) × (v.merged ≡ v.given) × (v.dry ≡ true)

  -- what every seat can rely on: it has drawn no place twice; the opening seat has merged no more seats than it gave; where it is the last, it has drawn all places
  abbrev pub Knows : Hand T D → Type 0
  Knows v = IsPartOfDeal (length v.jobs) (places v) × (v.opens ≡ true → v.merged ≤ v.given) × (IsLast v → IsDeal (length v.jobs) (places v))
