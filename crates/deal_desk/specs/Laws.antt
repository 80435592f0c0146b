-- A law: what holds of a desk between any two steps of its seats, in whatever threads.
use Rattle.std.specs.Prelude.{◌≡◌, ◌≢◌, ℕ, ◌+◌, ◌<◌, ◌≤◌, ◌⊎◌, true, List, length, sum_by, Contains, Some, slice_get, slice_index}
use mathlib.Core.Option.{some, none}
use lib.ListN.{get_elem?}
use Rattle.atomic_table.specs.Table.{State}
use Rattle.deal_desk.specs.declared.hand.Hand.{Hand}
use Rattle.deal_desk.specs.declared.job.Slot.{Slot}
use Rattle.deal_desk.specs.declared.job.Slot.TheVariants.{Waiting, Finished}
use Rattle.deal_desk.specs.Hands.{times, places}
use Rattle.deal_desk.specs.Rule.{finished_at, Dealing}

module _ {T D : Type 0} (is_value : T → D → Type 0) (jobs : List T) where
  -- some seat has the place out
  abbrev pub IsOut : State (Slot T D) (Hand T D) → ℕ → Type 0
  IsOut s k = (get_elem? s.homes k ≡ some none) × ((by : ℕ) × (v : Hand T D) × (get_elem? s.views by ≡ some v) × (v.out ≡ Some k))

  -- some seat has put the place back, and the slot has that value of the place's job
  abbrev pub IsFinished : State (Slot T D) (Hand T D) → ℕ → Type 0
  IsFinished s k = (by : ℕ) × (v : Hand T D) × (d : D) × (get_elem? s.views by ≡ some v) × Contains v.back (k, d)
      × (get_elem? s.homes k ≡ some (some (Finished d))) × ((job : T) → slice_get jobs k ≡ Some job → is_value job d)

  -- the slot has the job of the place
  abbrev pub IsWaiting : State (Slot T D) (Hand T D) → ℕ → Type 0
  IsWaiting s k = (job : T) × (slice_get jobs k ≡ Some job) × (get_elem? s.homes k ≡ some (some (Waiting job)))

  -- a place below the number of draws has been started, and is out or finished; any other waits
  abbrev pub StartedThenFinished : Type 0
  StartedThenFinished = (s : State (Slot T D) (Hand T D)) → Dealing is_value jobs s → (k : ℕ) → k < length jobs
      → ((slice_index s.words 0 ≤ k) × IsWaiting s k) ⊎ ((k < slice_index s.words 0) × (IsOut s k ⊎ IsFinished s k))

  -- no place is with two seats
  abbrev pub SeatsApart : Type 0
  SeatsApart = (s : State (Slot T D) (Hand T D)) → Dealing is_value jobs s → (i j : ℕ) (v w : Hand T D) → i ≢ j → get_elem? s.views i ≡ some v → get_elem? s.views j ≡ some w
      → (k : ℕ) → 0 < times k (places v) → times k (places w) ≡ 0

  -- a seat is dry only where every job has been drawn
  abbrev pub DryMeansDealt : Type 0
  DryMeansDealt = (s : State (Slot T D) (Hand T D)) → Dealing is_value jobs s → (by : ℕ) (v : Hand T D) → get_elem? s.views by ≡ some v → v.dry ≡ true
      → (k : ℕ) → k < length jobs → IsOut s k ⊎ IsFinished s k

  -- word 0 is at most the number of jobs and one more for each seat; word 1 is the number of places that have their results
  abbrev pub CountersTell : Type 0
  CountersTell = (s : State (Slot T D) (Hand T D)) → Dealing is_value jobs s
      → (slice_index s.words 0 ≤ length jobs + 65537) × (slice_index s.words 1 ≡ sum_by finished_at s.homes)
