-- A law: what stays of a place while it waits, from round to round, so that it may be kept and needn't be looked at again.
use Rattle.std.specs.Prelude.{◌≡◌, ℕ, suc, ◌<◌, ◌≤◌, Bool, true, false, List, [], ◌∷◌, ◌++◌, Option, Some, take}
use Rattle.interleaving.specs.Machine.{has}
use Rattle.interleaving.specs.Rounds.{pending}
use Rattle.recording.specs.declared.recording.Recording.{Recording}
use Rattle.recording.specs.Steps.{places}
use Rattle.chain_plan.specs.Chain.{role}
use Rattle.world_parts.specs.World.{World}
use Rattle.world_parts.specs.Items.{chain_flag, one, all_descriptors, Use, Footprint}
use Rattle.op_meaning.specs.Step.{Turn, called, runs, turn}
use Rattle.foot_print.specs.Reach.{written_by, is_met, makes, LookedUp, look_of, task, is_canceled, is_taken_to_run, order_of, running_row, accepted_row, wide_row}
use Rattle.wave_pick.specs.Orders.{InOrder}
use Rattle.wave_pick.specs.Rounds.{state_after, wave_after}
use Rattle.wave_pick.specs.Holds.{Waits, world_after, footprint_after, reaches_after, reach_after, HoldsBack}

-- After r rounds a place has this access set, which is its may-access set too, and no may-access set before it writes an item of it.
pub record Settled (t : Recording) (window r k : ℕ) (f : Footprint) : Type 0 where
  pub footprint_is : footprint_after t window r k ≡ f
  pub reach_is : reach_after t window r k ≡ f
  pub unmet : is_met f (reaches_after t window r k) ≡ false

-- Where no may-access set before it writes an item of its access set, a place has that access set, also as its may-access set, until it runs: both may be kept.
abbrev pub RowStays : Recording → Type 0
RowStays t = (window r q k : ℕ) → r ≤ q → Waits t window q k → is_met (footprint_after t window r k) (reaches_after t window r k) ≡ false
    → Settled t window q k (footprint_after t window r k)

-- A place that one other blocks isn't in the next round: it needn't be looked at while that one is known.
abbrev pub WitnessHolds : Recording → Type 0
WitnessHolds t = (window r i k : ℕ) → HoldsBack t window r i k → has (wave_after t window r) k ≡ false

-- Of two places of one chain, or of one queue where one of them is a barrier, the earlier one blocks the later one in every world until it runs: it may be kept as the one that does.
abbrev pub OrderHolds : Recording → Type 0
OrderHolds t = (window r i k : ℕ) → i < k → k < places t → InOrder t i k → Waits t window r i → HoldsBack t window r i k

-- Of the first pending places, as many as the window has, those that none blocks are in the next round.
abbrev pub OthersRun : Recording → Type 0
OthersRun t = (window r k : ℕ) → has (take window (pending (has (state_after t window r).finished) (places t))) k ≡ true
    → ((i : ℕ) → ¬ (HoldsBack t window r i k)) → has (wave_after t window r) k ≡ true

-- No may-access set before the place writes its chain's flag: the earlier members have run, or it is none of a chain.
abbrev pub ChainIsSettled : Recording → ℕ → ℕ → ℕ → Type 0
ChainIsSettled t window r k = written_by (reaches_after t window r k) (one (chain_flag (role t k).chain)) ≡ false

-- From then on it is settled whether the place runs or is canceled: its turn may be kept.
abbrev pub TurnStays : Recording → Type 0
TurnStays t = (window r q k : ℕ) → r ≤ q → Waits t window q k → ChainIsSettled t window r k
    → (turn t k (world_after t window q) ≡ turn t k (world_after t window r)) × ChainIsSettled t window q k

-- A place that is canceled then uses nothing but its order: its queue's, and the flag of its chain.
abbrev pub CanceledUsesOrder : Recording → Type 0
CanceledUsesOrder t = (window r k : ℕ) → ChainIsSettled t window r k → is_canceled (turn t k (world_after t window r)) ≡ true
    → (footprint_after t window r k ≡ order_of t k) × (reach_after t window r k ≡ order_of t k)

-- What a place looks up after r rounds: the items that decide its others, and its items as accepted.
abbrev pub look_after : Recording → ℕ → ℕ → ℕ → LookedUp
look_after t window r k = look_of t k (world_after t window r) (task t k)

-- A place that may run, where no may-access set before it writes an item that decides its others.
pub record IsDecided (t : Recording) (window r k : ℕ) : Type 0 where
  pub may_run : is_taken_to_run t k (world_after t window r) (reaches_after t window r k) ≡ true
  pub unmet : is_met (look_after t window r k).deciding (reaches_after t window r k) ≡ false

-- What it looks up is the same after the next round, and still no may-access set before it writes an item that decides: what it looks up may be kept while it may run.
abbrev pub DecidedStays : Recording → Type 0
DecidedStays t = (window r k : ℕ) → Waits t window (suc r) k → IsDecided t window r k
    → (look_after t window (suc r) k ≡ look_after t window r k) × (is_met (look_after t window (suc r) k).deciding (reaches_after t window (suc r) k) ≡ false)

-- Of a place that may run, the items that decide are found one after another: those before the first one that a may-access set before it writes, and that one, stay the first ones. So while the may-access set of a waiting place writes that one, nothing has to be looked up.
abbrev pub DecidingBegins : Recording → Type 0
DecidingBegins t = (window r k : ℕ) (known rest : Footprint) (first : Use) → Waits t window (suc r) k → is_taken_to_run t k (world_after t window r) (reaches_after t window r k) ≡ true
    → (look_after t window r k).deciding ≡ known ++ first ∷ rest → is_met known (reaches_after t window r k) ≡ false
    → ((others : Footprint) × ((look_after t window (suc r) k).deciding ≡ known ++ first ∷ others)) × (is_met known (reaches_after t window (suc r) k) ≡ false)

-- Whether a may-access set before the place writes some descriptor: while one does, the lowest free one isn't known.
abbrev pub descriptors_wait : Recording → ℕ → ℕ → ℕ → Bool
descriptors_wait t window r k = written_by (reaches_after t window r k) all_descriptors

-- The row of a place as accepted, and where an item that decides its others isn't known yet.
abbrev pub accepted_after : Recording → ℕ → ℕ → ℕ → Footprint
accepted_after t window r k = accepted_row t k (world_after t window r) (reaches_after t window r k)

abbrev pub wide_after : Recording → ℕ → ℕ → ℕ → Footprint
wide_after t window r k = wide_row t k (world_after t window r) (reaches_after t window r k)

-- The wide row of a place is the same after the next round, and so is its row as accepted, where it is decided.
pub record ReachRowsStay (t : Recording) (window r k : ℕ) : Type 0 where
  pub wide : wide_after t window (suc r) k ≡ wide_after t window r k
  pub accepted : is_met (look_after t window r k).deciding (reaches_after t window r k) ≡ false → accepted_after t window (suc r) k ≡ accepted_after t window r k

-- That is so for a place that may run, where it stays the same whether a may-access set before it writes a descriptor: a may-access set that is one of these rows may be kept.
abbrev pub WideStays : Recording → Type 0
WideStays t = (window r k : ℕ) → Waits t window (suc r) k → is_taken_to_run t k (world_after t window r) (reaches_after t window r k) ≡ true
    → descriptors_wait t window (suc r) k ≡ descriptors_wait t window r k → ReachRowsStay t window r k

-- What a turn writes of the node and the description that it may make.
abbrev pub made_of : Recording → ℕ → Option Turn → Footprint
made_of t k (Some (runs r e o)) = makes t k o
made_of t k (Some (called r o)) = makes t k o
made_of t k _ = []

-- Where a place looks up the same in two worlds, its row as running meets the same may-access sets in both, so far as these write nothing that it makes.
abbrev pub RowItems : Recording → Type 0
RowItems t = (k : ℕ) (s u : World) (earlier : List Footprint) → look_of t k u (task t k) ≡ look_of t k s (task t k) → is_met (made_of t k (task t k)) earlier ≡ false
    → is_met (running_row t k u) earlier ≡ is_met (running_row t k s) earlier

-- The row of a place as running.
abbrev pub row_after : Recording → ℕ → ℕ → ℕ → Footprint
row_after t window r k = running_row t k (world_after t window r)

-- One place writes the row of a later one: it waits, and its may-access set writes an item of that row.
pub record WritesRow (t : Recording) (window r i k : ℕ) : Type 0 where
  pub is_before : i < k
  pub waits : Waits t window r i
  pub writes : is_met (row_after t window r k) (reach_after t window r i ∷ []) ≡ true

-- A may-access set that writes an item that decides the others writes the row.
abbrev pub DecidingInRow : Recording → Type 0
DecidingInRow t = (window r i k : ℕ) → i < k → Waits t window r i → is_met (look_after t window r k).deciding (reach_after t window r i ∷ []) ≡ true → WritesRow t window r i k

-- Where it does, the may-access set of the later one isn't its row, and it is blocked unless it is canceled.
abbrev pub RowWitnessHolds : Recording → Type 0
RowWitnessHolds t = (window r i k : ℕ) → WritesRow t window r i k
    → (is_met (row_after t window r k) (reaches_after t window r k) ≡ true) × (is_canceled (turn t k (world_after t window r)) ≡ false → HoldsBack t window r i k)

-- While the later one looks up the same, a may-access set that writes an item of its row as it was writes its row: the row needn't be made anew.
abbrev pub RowWitnessStays : Recording → Type 0
RowWitnessStays t = (window r q i k : ℕ) → i < k → Waits t window q i → look_after t window q k ≡ look_after t window r k
    → is_met (row_after t window r k) (reach_after t window q i ∷ []) ≡ true → WritesRow t window q i k
