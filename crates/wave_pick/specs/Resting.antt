-- A law: on which earlier places a waiting one may rest, so that it needn't be looked at again while these wait unchanged.
use Rattle.std.specs.Prelude.{◌≡◌, ◌⊎◌, ℕ, suc, ◌<◌, ◌≤◌, true, false, List, [], ◌∷◌, ◌++◌}
use Rattle.interleaving.specs.Machine.{has}
use Rattle.recording.specs.declared.recording.Recording.{Recording}
use Rattle.chain_plan.specs.Chain.{role}
use Rattle.world_parts.specs.Items.{Item, chain_flag, one, all_descriptors, Use, Footprint}
use Rattle.foot_print.specs.Reach.{written_by, is_met, task, is_taken_to_run}
use Rattle.foot_print.specs.Outlook.{turn_takes_lowest, WaitsBy}
use Rattle.wave_pick.specs.Waiting.{IsDecided, WritesRow, ChainIsSettled, look_after, descriptors_wait}
use Rattle.wave_pick.specs.Holds.{Waits, HoldsBack, world_after, footprint_after, reaches_after, reach_after}

-- From round r to round q a place waits with one may-access set.
pub record StaysAsIs (t : Recording) (window r q i : ℕ) : Type 0 where
  pub waits : Waits t window q i
  pub same : (p : ℕ) → r ≤ p → p ≤ q → reach_after t window p i ≡ reach_after t window r i

-- One place rests on an earlier one: while that one stays as it is, it blocks the other, whose may-access set stays too.
abbrev pub RestsOn : Recording → ℕ → ℕ → ℕ → ℕ → Type 0
RestsOn t window r i k = (q : ℕ) → r ≤ q → StaysAsIs t window r q i → (reach_after t window q k ≡ reach_after t window r k) × HoldsBack t window q i k

-- What may-access sets before a place write of its chain's flag, and of the descriptors where it takes the lowest free one, the may-access set of the one place writes too.
pub record WritesForAll (t : Recording) (window r i k : ℕ) : Type 0 where
  pub chain : ChainIsSettled t window r k ⊎ (written_by (reach_after t window r i ∷ []) (one (chain_flag (role t k).chain)) ≡ true)
  pub descriptors : (turn_takes_lowest (task t k) ≡ false) ⊎ ((descriptors_wait t window r k ≡ false) ⊎ (written_by (reach_after t window r i ∷ []) all_descriptors ≡ true))

-- A waiting place whose access set no may-access set before it writes rests on any that holds it back.
abbrev pub RestsUnmet : Recording → Type 0
RestsUnmet t = (window r i k : ℕ) → Waits t window r k → is_met (footprint_after t window r k) (reaches_after t window r k) ≡ false → HoldsBack t window r i k → RestsOn t window r i k

-- A waiting place that is decided rests on one whose may-access set writes its row.
abbrev pub RestsDecided : Recording → Type 0
RestsDecided t = (window r i k : ℕ) → Waits t window r k → IsDecided t window r k → WritesForAll t window r i k → WritesRow t window r i k → RestsOn t window r i k

-- A waiting place that may run and isn't decided rests on one whose may-access set writes the first item of those that decide that any may-access set before it writes.
abbrev pub RestsUndecided : Recording → Type 0
RestsUndecided t = (window r i k : ℕ) (known rest : Footprint) (first : Use) → i < k → Waits t window r i → Waits t window r k
    → is_taken_to_run t k (world_after t window r) (reaches_after t window r k) ≡ true → WritesForAll t window r i k
    → (look_after t window r k).deciding ≡ known ++ first ∷ rest → is_met known (reaches_after t window r k) ≡ false
    → is_met (first ∷ []) (reach_after t window r i ∷ []) ≡ true → RestsOn t window r i k

-- A waiting place rests on an earlier one whose may-access set writes one of the items by which it waits.
abbrev pub RestsByItems : Recording → Type 0
RestsByItems t = (window r i k : ℕ) (f : Footprint) → i < k → Waits t window r i → Waits t window r k
    → WaitsBy t k (world_after t window r) (written_by (reaches_after t window r k)) f → WritesForAll t window r i k
    → is_met f (reach_after t window r i ∷ []) ≡ true → RestsOn t window r i k

-- While the one place has the same may-access set in the next round, the other rests on it still.
abbrev pub RestsOnStays : Recording → Type 0
RestsOnStays t = (window r i k : ℕ) → RestsOn t window r i k → StaysAsIs t window r (suc r) i → RestsOn t window (suc r) i k

-- From round r to round q each of some places waits with one may-access set.
abbrev pub AllStay : Recording → ℕ → ℕ → ℕ → List ℕ → Type 0
AllStay t window r q is = (i : ℕ) → has is i ≡ true → StaysAsIs t window r q i

-- One of some places blocks another one.
abbrev pub OneHolds : Recording → ℕ → ℕ → List ℕ → ℕ → Type 0
OneHolds t window q is k = (i : ℕ) × ((has is i ≡ true) × HoldsBack t window q i k)

-- One place rests on some earlier ones: while all of them stay as they are, one blocks the other, whose may-access set stays too.
abbrev pub RestsOnAll : Recording → ℕ → ℕ → List ℕ → ℕ → Type 0
RestsOnAll t window r is k = (q : ℕ) → r ≤ q → AllStay t window r q is → (reach_after t window q k ≡ reach_after t window r k) × OneHolds t window q is k

-- One of some places is before another one, waits, and has a may-access set that writes an item.
pub record OneWrites (t : Recording) (window r : ℕ) (is : List ℕ) (k : ℕ) (x : Item) : Type 0 where
  pub place : ℕ
  pub is_one : has is place ≡ true
  pub is_before : place < k
  pub waits : Waits t window r place
  pub writes : written_by (reach_after t window r place ∷ []) x ≡ true

-- What may-access sets before a place write of its chain's flag, the may-access set of one of some places writes too; and so of the descriptors, where it takes the lowest free one.
pub record WriteForAll (t : Recording) (window r : ℕ) (is : List ℕ) (k : ℕ) : Type 0 where
  pub chain : ChainIsSettled t window r k ⊎ OneWrites t window r is k (one (chain_flag (role t k).chain))
  pub descriptors : (turn_takes_lowest (task t k) ≡ false) ⊎ ((descriptors_wait t window r k ≡ false) ⊎ OneWrites t window r is k all_descriptors)

-- A waiting place rests on some of which one writes one of the items by which it waits, and one of them the flag of its chain, and one a descriptor: they need not be the same.
abbrev pub RestsTogether : Recording → Type 0
RestsTogether t = (window r i k : ℕ) (is : List ℕ) (f : Footprint) → has is i ≡ true → i < k → Waits t window r i → Waits t window r k
    → WaitsBy t k (world_after t window r) (written_by (reaches_after t window r k)) f → WriteForAll t window r is k
    → is_met f (reach_after t window r i ∷ []) ≡ true → RestsOnAll t window r is k

-- While all have the same may-access sets in the next round, the other rests on them still.
abbrev pub RestsOnAllStays : Recording → Type 0
RestsOnAllStays t = (window r : ℕ) (is : List ℕ) (k : ℕ) → RestsOnAll t window r is k → AllStay t window r (suc r) is → RestsOnAll t window (suc r) is k
