-- The model: the rule of the desk's table, what the words, the slots at home and the seats have to do with each other.
-- Word 0 is the number of draws, word 1 the number of results that came back.
use Rattle.std.specs.Prelude.{◌≡◌, ℕ, ◌+◌, ◌<◌, ◌≤◌, ◌^◌, min, true, false, not, ◌&&◌, if◌then◌else◌, List, [], length, sum_by, Contains, Some, None, slice_get, slice_index}
use mathlib.Core.Option.{some, none}
use mathlib.Core.Option as maybe
use lib.ListN.{get_elem?}
use Rattle.atomic_table.specs.Table.{State}
use Rattle.deal_desk.specs.declared.hand.Hand.{Hand}
use Rattle.deal_desk.specs.declared.job.Slot.{Slot}
use Rattle.deal_desk.specs.declared.job.Slot.TheVariants.{Waiting, Taken, Finished}
use Rattle.deal_desk.specs.Hands.{times, once_below, places}

module _ {T D : Type 0} where
  -- 1 for a slot at home with its result
  abbrev pub finished_at : maybe.Option (Slot T D) → ℕ
  finished_at none = 0
  finished_at (some (Waiting job)) = 0
  finished_at (some Taken) = 0
  finished_at (some (Finished d)) = 1

  -- how many seats it stands for: itself and those that it has merged
  abbrev pub weight : Hand T D → ℕ
  weight v = if v.live then v.merged + 1 else 0

  -- 0 for a seat that may yet find that all were drawn, else 1
  abbrev pub ended : Hand T D → ℕ
  ended v = if v.live && not v.dry then 0 else 1

  module _ (is_value : T → D → Type 0) (jobs : List T) where
    -- what is so of the seat number `by`, which knows v, after `drawn` draws, where there are so many seats
    pub record Fits (drawn seats : ℕ) (homes : List (maybe.Option (Slot T D))) (by : ℕ) (v : Hand T D) : Type 0 where
      -- it knows the jobs
      pub knows : v.live ≡ true → v.jobs ≡ jobs
      -- a seat that another took in has no places
      pub spent : v.live ≡ false → (v.out ≡ None) × (v.back ≡ [])
      -- the opening seat is number 0, and has given all the others
      pub opens : v.opens ≡ true → (by ≡ 0) × (v.live ≡ true) × (v.given + 1 ≡ seats)
      -- it is dry only where all jobs were drawn
      pub dry : v.dry ≡ true → length jobs ≤ drawn
      -- the slot of the place that is out isn't at home
      pub out : (k : ℕ) → v.out ≡ Some k → get_elem? homes k ≡ some none
      -- a place that it put back has that result, which is a value of the job
      pub back : (k : ℕ) (d : D) → Contains v.back (k, d) → (get_elem? homes k ≡ some (some (Finished d))) × ((job : T) → slice_get jobs k ≡ Some job → is_value job d)

    -- how the number of draws, the slots at home and what the seats know go together
    pub record Dealt (drawn : ℕ) (homes : List (maybe.Option (Slot T D))) (views : List (Hand T D)) : Type 0 where
      -- a slot for each job
      pub sized : length homes ≡ length jobs
      -- fewer than 2^32 jobs
      pub few : length jobs < 2 ^ 32
      -- the places drawn are those below the number of draws, each once, by one seat
      pub dealt : (k : ℕ) → sum_by (λ v. times k (places v)) views ≡ once_below k (min drawn (length jobs))
      -- the others have their jobs
      pub waiting : (k : ℕ) (job : T) → drawn ≤ k → slice_get jobs k ≡ Some job → get_elem? homes k ≡ some (some (Waiting job))
      -- each seat fits the slots
      pub fits : (by : ℕ) (v : Hand T D) → get_elem? views by ≡ some v → Fits drawn (length views) homes by v
      -- each seat stands for itself, or has been merged into one that does
      pub merged : sum_by weight views ≡ length views
      -- the opening seat and those that it gave
      pub seats : length views ≤ 65537
      -- a draw that found no job made a seat dry, which draws no more
      pub draws : drawn ≤ length jobs + sum_by ended views

    -- the rule: word 0 counts the draws, word 1 the slots at home with their results
    abbrev pub Dealing : State (Slot T D) (Hand T D) → Type 0
    Dealing s = Dealt (slice_index s.words 0) s.homes s.views × (length s.words ≡ 2) × (slice_index s.words 1 ≡ sum_by finished_at s.homes)
